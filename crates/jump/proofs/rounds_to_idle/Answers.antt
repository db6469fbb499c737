-- Round by round: what is left, what was added up and what was counted so far are `Reached`.
use native.Mathlib.Omega.{arith}
use Rattle.jump.proofs.Rounds.{round_used}
use Rattle.jump.proofs.Reached.{reached_first, reached_on}
use Rattle.jump.proofs.rounds_to_idle.Goals as goal

pub loop-left-init : goal.loop-left-init
loop-left-init c = reached_first _ _ _ c.requires.0 c.requires.2

-- a round
pub overflow_sub-left : goal.overflow_sub-left
overflow_sub-left c = (round_used _ _ _ c.one_round-r.ensures (omega arith)).1

pub loop-left-smaller : goal.loop-left-smaller
loop-left-smaller c = omega (arith, round_used _ _ _ c.one_round-r.ensures (omega arith))

pub loop-left-preserved : goal.loop-left-preserved
loop-left-preserved c =
    reached_on c.loop-left.invariant c.requires.1 (omega arith) c.one_round-r.ensures
