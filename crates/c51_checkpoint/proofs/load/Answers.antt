-- `load` is the machine's answer: by the reading of the file, and whether it has bytes left over.
use Prim.Native.Nat.{ℕ}
use mathlib.Core.Path.{ap, ◌∙◌}
use Rattle.std.proofs.lemmas.Result.{err_from_is_err_and}
use Rattle.machine.specs.Calls.{passed, refuse}
use Rattle.machine.specs.Checkpoint.{device_with}
use Rattle.machine.specs.Outcomes.{number}
use Rattle.values.specs.Values.{cut}
use Rattle.checkpoint.specs.Reads.{state_of}
use Rattle.c51_checkpoint.proofs.Answers.{load_faulty, load_over, load_whole}
use Rattle.c51_checkpoint.proofs.load.Goals as goal

pub returns-in_err-r : goal.returns-in_err-r
unfolding state_of
returns-in_err-r c =
    let r = err_from_is_err_and c.from_residual.result c.from_residual.ensures.1 in
    let e = c.in_err-r.field-0.0 in
    let refused = ap (refuse (number e)) c.zeros.ensures ∙ load_faulty _ e (rw c.kind_in-kind.ensures at c.in_err-r.ensures.0) in
    rw (r.1, r.2) refused

pub returns-then-r-file : goal.returns-then-r-file
unfolding state_of
returns-then-r-file c =
    ap (refuse 15) c.zeros.ensures
    ∙ load_over _ c.in_ok-r.r (rw c.kind_in-kind.ensures at c.in_ok-r.ensures.0) c.if-r-file.true

pub returns : goal.returns
unfolding state_of
returns c =
    ap passed (c.device_of.ensures ∙ ap (λ (kind : ℕ). device_with kind (cut c.in_ok-r.r.values)) c.kind_in-kind.ensures)
    ∙ load_whole _ c.in_ok-r.r (rw c.kind_in-kind.ensures at c.in_ok-r.ensures.0) c.if-r-file.false
