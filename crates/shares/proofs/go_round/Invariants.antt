use Rattle.std.proofs.Common.{◌≡◌, ◌++◌, length, take, drop}
use Rattle.slices.specs.Shares.{goes_round}
use Rattle.shares.proofs.go_round.Given as goal

abbrev pub invariant-loop-i : goal.invariant-loop-i
invariant-loop-i l =
    (length l.output ≡ length l.wishes)
    × (take l.i l.output ++ goes_round l.part l.left (drop l.i l.wishes) ≡ goes_round l.part l.over l.wishes)
