-- `cycle` gives the machine's answer: the device as it stands in power-down, or the cycle by the contract of `cycle_once`; and the line
-- of a device that stays accepted.
use mathlib.Core.Path.{sym, ◌∙◌}
use Rattle.machine.specs.Calls.{cycle_answer}
use Rattle.machine.specs.Cycle.{cycle_of}
use Rattle.cycle.proofs.Keeps.{cycle_accepted, sends_within}
use Rattle.cycle.proofs.Steps.{cycle_reaches}
use Rattle.laws.proofs.Sleep.{cycle_down}
use Rattle.laws.proofs.Guards.{yes}
use Rattle.c51_run.proofs.cycle.Goals as goal

-- in power-down
pub line_of-requires : goal.line_of-requires
line_of-requires c = sends_within _ (yes c.accepts.ensures c.if-not-accepts.false)

pub returns-then-powered_down : goal.returns-then-powered_down
unfolding cycle_answer
returns-then-powered_down c =
    let x = c.args in
    let down = cycle_down x.d.now (sym c.powered_down.ensures ∙ c.if-powered_down.true) x.pins in
    rw (yes c.accepts.ensures c.if-not-accepts.false, yes c.pins_ok.ensures c.if-not-pins_ok.false, down, c.line_of.ensures)

-- out of it
pub line_of-requires-2 : goal.line_of-requires-2
line_of-requires-2 c =
    let x = c.args in
    let d = x.d.now in
    let ok = yes c.accepts.ensures c.if-not-accepts.false in
    let up = sym c.powered_down.ensures ∙ c.if-powered_down.false in
    rw (cycle_reaches x.pins d up c.pins_of.ensures c.cycle_once-r.ensures.1) (sends_within (cycle_of x.pins d) (cycle_accepted x.pins d ok))

pub returns : goal.returns
unfolding cycle_answer
returns c =
    let x = c.args in
    let d = x.d.now in
    let up = sym c.powered_down.ensures ∙ c.if-powered_down.false in
    let reaches = cycle_reaches x.pins d up c.pins_of.ensures c.cycle_once-r.ensures.1 in
    rw (yes c.accepts.ensures c.if-not-accepts.false, yes c.pins_ok.ensures c.if-not-pins_ok.false, ← reaches, c.line_of-2.ensures)
