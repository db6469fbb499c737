-- Entry by entry: what is still to run and what was added up so far are `Running`.
use native.Mathlib.Omega.{arith}
use Rattle.jump.proofs.Taken.{ready_taken, run_taken, laps_taken}
use Rattle.traces.proofs.Running.{running_first, running_within, running_on, running_end, running_sum}
use Rattle.traces.proofs.run_entries.Goals as goal

pub loop-e-init : goal.loop-e-init
loop-e-init c = running_first _ _ c.requires.0 c.none.ensures

pub advance-a-requires : goal.advance-a-requires
advance-a-requires c =
    let l = c.loop-e in (
      ready_taken c.entry_pins.result l.run.device c.pins_of-pins.ensures l.invariant.good,
      omega (arith, c.entry_cycles.ensures),
      running_within l.invariant c.requires.1,
    )

pub loop-e-preserved : goal.loop-e-preserved
loop-e-preserved c =
    let l = c.loop-e in
    let r = c.advance-a.ensures in
    running_on l.invariant c.loop-e-test.true c.entry_cycles.ensures c.entry_pins.ensures
    (run_taken _ l.run.device c.pins_of-pins.ensures _ r.2) (laps_taken _ l.run.device c.pins_of-pins.ensures _ l.run.totals r.1)

pub returns : goal.returns
returns c =
    let i = c.loop-e.invariant in
    (running_sum i c.loop-e-test.false, running_end i c.loop-e-test.false)
