-- `save` is the machine's answer: refused, or the file.
use mathlib.Core.Path.{◌≡◌, ap, sym, ◌∙◌}
use mathlib.Core.Bool.{true}
use Prim.Native.Nat.{ℕ}
use Rattle.std.proofs.lemmas.Result.{err_from_is_err_and}
use Rattle.std.specs.Prelude.{Result, Ok}
use Rattle.machine.specs.declared.Device.{Device}
use Rattle.machine.specs.declared.refusals.Refusal.{Refusal}
use Rattle.machine.specs.Record.{accepted}
use Rattle.machine.specs.Checkpoint.{layout, written, file_of, save_fault}
use Rattle.machine.specs.Outcomes.{code_of}
use Rattle.layout.specs.Order.{length_of}
use Rattle.c51_checkpoint.proofs.Answers.{kind_of, not_refused, save_refused, save_passed}
use Rattle.c51_checkpoint.proofs.save.Goals as goal

pub returns-in_err-refusal : goal.returns-in_err-refusal
returns-in_err-refusal c =
    let r = err_from_is_err_and c.from_residual.result c.from_residual.ensures.1 in
    rw (r.1, r.2) (save_refused _ _ _ c.in_err-refusal.ensures)

-- past the refusals
none : (d : Device) (size : ℕ) (r : Result (Unit {0}) Refusal) → code_of r ≡ save_fault d size → r ≡ Ok tt → 0 ≡ save_fault d size
none d size r e p = sym (ap code_of p) ∙ e

free : (d : Device) (size : ℕ) (r : Result (Unit {0}) Refusal) → code_of r ≡ save_fault d size → r ≡ Ok tt
    → (accepted d ≡ true) × (size ≡ length_of d.kind)
free d size r e p = not_refused d size (sym (none d size r e p))

pub write-requires : goal.write-requires
write-requires c =
    let f = free _ _ _ c.refusal.ensures c.in_ok-refusal.was in
    (kind_of _ f.0, f.1)

pub returns : goal.returns
unfolding file_of
returns c =
    let d = c.args.d in
    save_passed d _ (none _ _ _ c.refusal.ensures c.in_ok-refusal.was) _ (c.write.ensures ∙ ap (written (layout d.kind)) c.values_of.ensures)
