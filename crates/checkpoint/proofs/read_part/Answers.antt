-- `checkpoint::read_part` is the definition's step: proofs/Steps.antt, by whether the part is whole and by its fault.
use native.Mathlib.Omega.{arith}
use Rattle.std.proofs.lemmas.Result.{err_from_is_err_and}
use Rattle.checkpoint.specs.Reads.{state_of}
use Rattle.checkpoint.proofs.Steps.{step_short, step_whole}
use Rattle.checkpoint.proofs.read_part.Goals as goal

pub returns-then-file-r : goal.returns-then-file-r
unfolding state_of
returns-then-file-r c =
    (step_short _ _ c.args.p c.args.r c.requires.1.1 (rw c.width_of-width.ensures at c.if-file-r.true), tt)

pub returns-in_err-fault : goal.returns-in_err-fault
unfolding state_of
returns-in_err-fault c =
    let r = err_from_is_err_and c.from_residual.result c.from_residual.ensures.1 in
    let step =
    step_whole _ _ _ c.args.r c.requires.1.1 _ _ _ _ c.if-file-r.false c.width_of-width.ensures c.number-n.ensures c.taken-values.ensures c.in_err-fault.ensures in
    rw (r.1, r.2) (step, tt)

pub returns : goal.returns
unfolding state_of
returns c = (
  step_whole _ _ _ c.args.r c.requires.1.1 _ _ _ _ c.if-file-r.false c.width_of-width.ensures c.number-n.ensures c.taken-values.ensures c.in_ok-fault.ensures,
  let h = c.requires.1.1 in omega (arith, c.if-file-r.false),
)
