-- `counter_ok` is the definition: the tests joined from the left. A byte is within its range by its type, and is not tested.
use mathlib.Core.List.{◌∷◌, map}
use Prim.Native.Nat.{◌≤◌}
use native.Mathlib.Omega.{arith}
use lib.Dec.{leb}
use borrow.Author.Tests.{le-leb}
use Rattle.machine.specs.Record.{Hidden}
use Rattle.machine.proofs.Choices.{joined, without}
use Rattle.interval.specs.Interval.{mode_ok, format_ok, fields, counter_ok}
use Rattle.interval_counter.proofs.counter_ok.Goals as goal

pub returns : goal.returns
unfolding counter_ok fields
returns c = let s = c.args.k in
    let low : s.low ≤ 255 = omega (arith, c.well_formed) in
    simp (c.most-top.ensures, le-leb _ _ low)
    (joined (mode_ok s.mode) (format_ok s.format ∷ map (λ (h : Hidden). leb h.value h.most) (without 6 (fields s))))
