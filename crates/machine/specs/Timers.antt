-- Document 01, "One cycle", step 2: Timers 0 and 1. The pin byte is as the kind takes it.
use Rattle.std.specs.Prelude.{ℕ, Bool, cond, ◌&&◌, ◌||◌, eqb}
use Rattle.machine.specs.declared.Timers.{Timers}
use Rattle.machine.specs.declared.TimersCounted.{TimersCounted}
use Rattle.machine.specs.declared.Count.{Count}
use Rattle.machine.specs.Bits.{bit, set_bit, field}
use Rattle.machine.specs.Counting.{next, overflow, count13, count16, reload8, count8, hold}
use Rattle.machine.specs.Registers.{TF0, TF1, TR0, TR1, GATE0, GATE1, C/T0, C/T1, MODE0, MODE1, INT0, INT1}

-- Timer i is enabled when TRi = 1 and (GATE = 0 or L of INTi = 1)
unfoldable pub enabled : ℕ → ℕ → ℕ → Bool
enabled run gate level = eqb run 1 && (eqb gate 0 || eqb level 1)

-- enabled, it counts 1 as a timer, or 1 on its due mark as a counter
unfoldable pub clocked : ℕ → ℕ → Bool
clocked counter due = eqb counter 0 || eqb due 1

-- the modes of Timers 0 and 1
abbrev pub timer0_mode : Timers → ℕ
timer0_mode t = field MODE0 2 t.tmod

abbrev pub timer1_mode : Timers → ℕ
timer1_mode t = field MODE1 2 t.tmod

-- one count in modes 0, 1 and 2; what mode 3 does differs
unfoldable pub count_in : ℕ → Count → ℕ → ℕ → Count
count_in mode three tl th =
    cond (eqb mode 0) (count13 tl th) (cond (eqb mode 1) (count16 tl th) (cond (eqb mode 2) (reload8 tl th) three))

-- an overflow sets bit k: a flag, or its source's bit of polled
unfoldable pub flagged : ℕ → ℕ → ℕ → ℕ
flagged k overflow x = cond (eqb overflow 1) (set_bit k x) x

-- Timer 0 counts in this cycle
unfoldable pub counts0 : Timers → ℕ → Bool
counts0 t pins =
    enabled (bit TR0 t.tcon) (bit GATE0 t.tmod) (bit INT0 pins) && clocked (bit C/T0 t.tmod) t.due0

-- Timer 1 counts in this cycle: with Timer 0 in mode 3 it is always enabled
unfoldable pub counts1 : Timers → ℕ → Bool
counts1 t pins =
    (eqb (timer0_mode t) 3 || enabled (bit TR1 t.tcon) (bit GATE1 t.tmod) (bit INT1 pins))
    && clocked (bit C/T1 t.tmod) t.due1

-- TH0 in mode 3 counts cycles while TR1 = 1
unfoldable pub counts_high0 : Timers → Bool
counts_high0 t = eqb (timer0_mode t) 3 && eqb (bit TR1 t.tcon) 1

-- Timer 0's pair after this cycle's count; in mode 3 TL0 is 8 bits under Timer 0's bits
unfoldable pub pair0 : Timers → ℕ → Count
pair0 t pins =
    cond (counts0 t pins) (count_in (timer0_mode t) (count8 t.tl0 t.th0) t.tl0 t.th0) (hold t.tl0 t.th0)

-- TH0 in mode 3 is 8 bits with a count of its own
unfoldable pub high0 : Timers → ℕ → ℕ
high0 t th = cond (counts_high0 t) (next 8 th) th

unfoldable pub high_overflow0 : Timers → ℕ → ℕ
high_overflow0 t th = cond (counts_high0 t) (overflow 8 th) 0

-- Timer 1's pair after this cycle's count; in mode 3 it holds
unfoldable pub pair1 : Timers → ℕ → Count
pair1 t pins =
    cond (counts1 t pins) (count_in (timer1_mode t) (hold t.tl1 t.th1) t.tl1 t.th1) (hold t.tl1 t.th1)

-- an overflow of Timer 0 sets TF0, of TH0 in mode 3 TF1; with Timer 0 in mode 3 Timer 1 sets no flag
unfoldable pub timer_flags : Timers → ℕ → ℕ → ℕ → ℕ
timer_flags t low high one =
    flagged TF1 (cond (eqb (timer0_mode t) 3) high one) (flagged TF0 low t.tcon)

-- step 2, with the three overflows; Timer 1's clocks the serial port
unfoldable pub timers_step : Timers → ℕ → TimersCounted
timers_step t pins =
    let low = pair0 t pins in
    let high = high_overflow0 t low.th in
    let one = pair1 t pins in
    record {
      timers =
          record {
            tcon = timer_flags t low.overflow high one.overflow;
            tmod = t.tmod;
            tl0 = low.tl;
            tl1 = one.tl;
            th0 = high0 t low.th;
            th1 = one.th;
            due0 = t.due0;
            due1 = t.due1;
          };
      overflow0 = low.overflow;
      overflow_th0 = high;
      overflow1 = one.overflow;
    }
