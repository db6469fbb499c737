-- What is left of a lap is at most a lap too great: by the laws of what is taken off.
use Prim.Native.Nat.{◌+◌, ◌%◌}
use mathlib.Core.Path.{◌≡◌, sym, ◌∙◌}
use native.Mathlib.Nat.{mod-eq_of_lt}
use Rattle.interval_jump.specs.Jump.{down_by}
use Rattle.interval_jump.proofs.Down.{down_within, down_over}
use Rattle.interval_jump.proofs.down_by.Goals as goal
use Rattle.interval_jump.proofs.down_by.Goals.{then-gone-from, else-gone-from, then-left-lap, else-left-lap}

pub returns : goal.returns
returns c =
    let x = c.args in
    let top = c.from-lap.ensures in
    let from = c.from-from.ensures in
    let rest : c.if-gone-from.left % (c.from-lap.result + 1) ≡ down_by x.top x.n x.c =
    elim c.if-gone-from.branch [
      | then-gone-from w ↦
          rw (w.left-is, top, from) (down_within x.top x.n x.c (rw (top, from) at w.if-gone-from.true))
      | else-gone-from w ↦ rw (w.left-is, top, from) (down_over x.top x.n x.c)
    ] in
    elim c.if-left-lap.branch [
      | then-left-lap w ↦ w.below-is ∙ (sym (mod-eq_of_lt w.if-left-lap.true) ∙ rest)
      | else-left-lap w ↦ w.below-is ∙ rest
    ]
