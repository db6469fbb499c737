-- Document 02, request Seven: how often Timers 0, 1 and 2 overflow in a cycle, and over the cycles of a jump.
use Rattle.std.specs.Prelude.{ℕ, zero, suc, ◌+◌, ◌*◌, ◌≤◌, cond}
use Rattle.machine.specs.declared.Overflows.{Overflows}
use Rattle.machine.specs.declared.Totals.{Totals}
use Rattle.machine.specs.declared.Device.{Device}
use Rattle.machine.specs.Power.{powered_down}
use Rattle.machine.specs.Record.{pins_of}
use Rattle.machine.specs.Cycle.{counted, overflows_of, cycle_of}

-- three zeros: of an empty jump, in power-down, and of a refused call
abbrev pub no_totals : Totals
no_totals = record { timer0 = 0; timer1 = 0; timer2 = 0 }

-- the sum of two
abbrev pub added : Totals → Totals → Totals
added a b = record { timer0 = a.timer0 + b.timer0; timer1 = a.timer1 + b.timer1; timer2 = a.timer2 + b.timer2 }

-- timer by timer: TH0 in mode 3 belongs to Timer 0's total
abbrev pub by_timer : Overflows → Totals
by_timer o = record { timer0 = o.timer0 + o.th0; timer1 = o.timer1; timer2 = o.timer2 }

-- the overflows of the next cycle, of its steps 2 and 3: Timer 1's also where they set no flag, each of Timer 2's up to six, and no
-- reload by T2EX; in power-down nothing counts
unfoldable pub totals_next : ℕ → Device → Totals
totals_next pins d = cond (powered_down d.pcon) no_totals (by_timer (overflows_of (counted d (pins_of d.kind pins))))

-- those of n cycles with one pin byte
unfoldable pub totals : ℕ → ℕ → Device → Totals
totals zero pins d = no_totals
totals (suc n) pins d = added (totals_next pins d) (totals n pins (cycle_of pins d))

-- the most that n cycles bring, so that 64 bits hold the totals of every jump and trace run. No rule asks for it;
-- crates/strides/proofs/Totals.antt proves it
pub record Within (n : ℕ) (t : Totals) : Type 0 where
  pub timer0 : t.timer0 ≤ 2 * n
  pub timer1 : t.timer1 ≤ n
  pub timer2 : t.timer2 ≤ 6 * n
