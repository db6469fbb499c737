-- `jump` is the answer of its definition, from the outcomes of both chips.
use Rattle.std.proofs.lemmas.Result.{err_from_is_err_and}
use Rattle.board.proofs.Joined.{jump_passes, jump_refuses, timer_refuses_jump, both_refuse_jump}
use Rattle.board.proofs.jump.Goals as goal

pub returns-in_err-jumped-in-Ok : goal.returns-in_err-jumped-in-Ok
returns-in_err-jumped-in-Ok c =
    let r = err_from_is_err_and c.from_residual.result c.from_residual.ensures.1 in
    rw (r.1, r.2) (jump_refuses c.args.b.now c.args.pins c.args.gates _ _ c.args.n _ _ c.in-Ok.ensures c.in_err-jumped-in-Ok.ensures)

pub returns-in_ok-jumped-in-Ok : goal.returns-in_ok-jumped-in-Ok
returns-in_ok-jumped-in-Ok c =
    jump_passes c.args.b.now c.args.pins c.args.gates _ _ c.args.n _ _ c.in-Ok.ensures c.in_ok-jumped-in-Ok.ensures

pub returns-in-Ok-jump : goal.returns-in-Ok-jump
returns-in-Ok-jump c =
    timer_refuses_jump c.args.b.now c.args.pins c.args.gates _ _ c.args.n _ _ c.in-Err.ensures c.in-Ok-jump.ensures

pub returns-in-Err-jump : goal.returns-in-Err-jump
returns-in-Err-jump c =
    both_refuse_jump c.args.b.now c.args.pins c.args.gates _ _ c.args.n _ _ _ c.lower.ensures c.in-Err.ensures c.in-Err-jump.ensures
