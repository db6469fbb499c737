use Rattle.reload.specs.Reload.{unwound}
use Rattle.reload.proofs.Rounds.{Going}
use Rattle.reload.proofs.idle.Given as goal

abbrev pub invariant-loop-left : goal.invariant-loop-left
invariant-loop-left l = Going l.k l.n (unwound l.initial.x) (unwound l.x) l.left l.rounds

abbrev pub decreases-loop-left : goal.decreases-loop-left
decreases-loop-left l = l.left
