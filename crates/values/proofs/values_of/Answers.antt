-- `values::values_of` is the definition: part by part, and proofs/Values.antt's `listed_is`.
use mathlib.Core.Path.{◌∙◌}
use Rattle.values.proofs.Values.{listed, listed_is}
use Rattle.values.proofs.values_of.Goals as goal

pub returns : goal.returns
returns c =
    let d = c.args.d in
    let l = c.level_values-l.ensures in
    let f = c.time_values-f.ensures in
    (λ k. listed (c.from.ensures k) d.cycle (c.timer_values-t.ensures k) (c.timer2_values-t2.ensures k) (c.send_values-u.ensures k) (c.receive_values-x.ensures k)
    (c.serial_values-s.ensures k) (c.interrupt_values-i.ensures k) c.level_values-l.result c.time_values-f.result)
    ∙ listed_is d _ _ l.0 l.1 f.0 f.1
