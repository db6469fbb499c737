-- `hidden_ok` is the definition: the tests joined from the left. The received byte and the cycle number are within their ranges by their
-- types, and are not tested.
use mathlib.Core.Bool.{true}
use mathlib.Core.List.{map}
use Prim.Native.Nat.{◌≤◌, ◌-◌, ◌^◌}
use native.Mathlib.Omega.{arith}
use lib.Dec.{leb}
use borrow.Author.Tests.{le-leb}
use Rattle.machine.specs.Record.{Hidden, hidden_fields}
use Rattle.machine.proofs.Choices.{joined, without}
use Rattle.record.proofs.hidden_ok.Goals as goal

pub returns : goal.returns
unfolding hidden_fields
returns c =
    let received : c.args.d.serial.received ≤ 255 = omega (arith, c.well_formed) in
    let cycle : c.args.d.cycle ≤ 2 ^ 64 - 1 = omega (arith, c.well_formed) in
    simp (c.picked-due_most.ensures, c.picked-last.ensures, c.mode_of.ensures, le-leb _ _ received, le-leb _ _ cycle)
    (joined true (map (λ (h : Hidden). leb h.value h.most) (without 9 (without 17 (hidden_fields c.args.d)))))
