-- `cycle` is the answer of its definition, from the outcomes of both chips.
use Rattle.board.proofs.Joined.{cycle_passes, chip_refuses, timer_refuses, both_refuse}
use Rattle.board.proofs.cycle.Goals as goal

pub returns-in-Ok-Ok : goal.returns-in-Ok-Ok
returns-in-Ok-Ok c =
    let t = c.in-Ok-Ok in
    cycle_passes c.args.b.now c.args.pins c.args.gates _ _ _ _ (rw t.is-0 at c.cycle-cycled.ensures) (rw t.is-1 at c.pulse-pulsed.ensures)

pub returns-in-Err-Ok : goal.returns-in-Err-Ok
returns-in-Err-Ok c =
    let t = c.in-Err-Ok in
    chip_refuses c.args.b.now c.args.pins c.args.gates _ _ _ _ (rw t.is-0 at c.cycle-cycled.ensures) (rw t.is-1 at c.pulse-pulsed.ensures)

pub returns-in-Ok-Err : goal.returns-in-Ok-Err
returns-in-Ok-Err c =
    let t = c.in-Ok-Err in
    timer_refuses c.args.b.now c.args.pins c.args.gates _ _ _ _ (rw t.is-0 at c.cycle-cycled.ensures) (rw t.is-1 at c.pulse-pulsed.ensures)

pub returns-in-Err-Err : goal.returns-in-Err-Err
returns-in-Err-Err c =
    let t = c.in-Err-Err in
    both_refuse c.args.b.now c.args.pins c.args.gates _ _ _ _ _ c.lower.ensures (rw t.is-0 at c.cycle-cycled.ensures)
    (rw t.is-1 at c.pulse-pulsed.ensures)
