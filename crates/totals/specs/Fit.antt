-- Totals that fit in 64 bits, and totals with room for those of every jump and trace run.
use Rattle.std.specs.Prelude.{◌<◌, ◌≤◌, ◌^◌}
use Rattle.machine.specs.declared.Totals.{Totals}

pub record Fit (t : Totals) : Type 0 where
  pub timer0 : t.timer0 < 2 ^ 64
  pub timer1 : t.timer1 < 2 ^ 64
  pub timer2 : t.timer2 < 2 ^ 64

pub record Low (t : Totals) : Type 0 where
  pub timer0 : t.timer0 ≤ 2 ^ 60
  pub timer1 : t.timer1 ≤ 2 ^ 60
  pub timer2 : t.timer2 ≤ 2 ^ 60
