use Rattle.lists.specs.Script.{script}
use Rattle.lists.proofs.Replays.{Halfway}
use Rattle.lists.proofs.replay.Given as goal

abbrev pub invariant-loop-i : goal.invariant-loop-i
invariant-loop-i l = Halfway (script l.calls l.lent) l.i-end l.initial.at l.initial.answers l.answers l.at l.i
