use Rattle.jump.specs.Rounds.{Reached}
use Rattle.jump.proofs.rounds_to_idle.Given as goal

abbrev pub invariant-loop-left : goal.invariant-loop-left
invariant-loop-left l = Reached l.pins l.n l.initial.run l.run l.left l.rounds

abbrev pub decreases-loop-left : goal.decreases-loop-left
decreases-loop-left l = l.left
