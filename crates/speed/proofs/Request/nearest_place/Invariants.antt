use Rattle.speed.specs.Nearest.{FirstNearest}
use Rattle.speed.proofs.Request.nearest_place.Given as goal

abbrev pub invariant-loop-n : goal.invariant-loop-n
invariant-loop-n l = FirstNearest l.self.crystal l.self.rate l.n l.best
