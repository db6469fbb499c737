-- Document 01, "One cycle", step 3: Timer 2. `fell` is 1 where T2EX falls in this cycle.
use Rattle.std.specs.Prelude.{ℕ, zero, suc, ◌+◌, ◌/◌, ◌%◌, Bool, cond, ◌&&◌, ◌||◌, eqb}
use Rattle.machine.specs.declared.Timer2.{Timer2}
use Rattle.machine.specs.declared.Timer2Counted.{Timer2Counted}
use Rattle.machine.specs.declared.Counted16.{Counted16}
use Rattle.machine.specs.Bits.{bit, set_bit}
use Rattle.machine.specs.Counting.{next_or, overflow, pair16}
use Rattle.machine.specs.Timers.{flagged}
use Rattle.machine.specs.Registers.{TF2, EXF2, RCLK, TCLK, EXEN2, TR2, C/T2, CP/RL2}

-- RCAP2H:RCAP2L, and the count TH2:TL2
abbrev pub rcap2 : Timer2 → ℕ
rcap2 t = pair16 t.rcap2l t.rcap2h

abbrev pub count2 : Timer2 → ℕ
count2 t = pair16 t.tl2 t.th2

-- Timer 2 with another T2CON, another count, another RCAP2
abbrev pub with_t2con : ℕ → Timer2 → Timer2
with_t2con n t = record { t2con = n; rcap2l = t.rcap2l; rcap2h = t.rcap2h; tl2 = t.tl2; th2 = t.th2; due2 = t.due2 }

abbrev pub with_count2 : ℕ → Timer2 → Timer2
with_count2 n t = record { t2con = t.t2con; rcap2l = t.rcap2l; rcap2h = t.rcap2h; tl2 = n % 256; th2 = n / 256; due2 = t.due2 }

abbrev pub with_rcap2 : ℕ → Timer2 → Timer2
with_rcap2 n t = record { t2con = t.t2con; rcap2l = n % 256; rcap2h = n / 256; tl2 = t.tl2; th2 = t.th2; due2 = t.due2 }

-- one count, an overflow giving the reload value
unfoldable pub count_once : ℕ → Counted16 → Counted16
count_once reload s = record { count = next_or 16 reload s.count; overflows = s.overflows + overflow 16 s.count }

-- n counts in turn
unfoldable pub count_times : ℕ → ℕ → Counted16 → Counted16
count_times zero reload s = s
count_times (suc n) reload s = count_times n reload (count_once reload s)

-- RCLK or TCLK set: Timer 2 is a baud rate generator
unfoldable pub baud_rate : Timer2 → Bool
baud_rate t = eqb (bit RCLK t.t2con) 1 || eqb (bit TCLK t.t2con) 1

-- the counts of this cycle: one as a counter on its due mark, as a timer `each`
unfoldable pub counts_of2 : ℕ → Timer2 → ℕ
counts_of2 each t = cond (eqb (bit C/T2 t.t2con) 0) each (cond (eqb t.due2 1) 1 0)

-- T2EX falling with EXEN2 = 1
unfoldable pub heeds_t2ex : Timer2 → ℕ → Bool
heeds_t2ex t fell = eqb fell 1 && eqb (bit EXEN2 t.t2con) 1

-- capture, and not auto-reload
unfoldable pub captures : Timer2 → Bool
captures t = eqb (bit CP/RL2 t.t2con) 1

-- the counts of this cycle, in turn, each overflow giving the reload value
unfoldable pub counted2 : ℕ → ℕ → Timer2 → Counted16
counted2 each reload t = count_times (counts_of2 each t) reload (record { count = count2 t; overflows = 0 })

-- with RCLK or TCLK set: six counts in turn as a timer, one on its due mark as a counter; each overflow reloads from
-- RCAP2, TF2 stays; T2EX falling with EXEN2 = 1 sets EXF2 only
unfoldable pub baud_step : Timer2 → ℕ → Timer2Counted
baud_step t fell =
    let s = counted2 6 (rcap2 t) t in
    record {
      timer2 = with_t2con (flagged EXF2 (cond (heeds_t2ex t fell) 1 0) t.t2con) (with_count2 s.count t);
      overflows = s.overflows;
      tf2 = 0;
    }

-- T2EX copies the count to RCAP2 (capture) or RCAP2 to the count (auto-reload)
unfoldable pub copied2 : Timer2 → Timer2
copied2 t = cond (captures t) (with_rcap2 (count2 t) t) (with_count2 (rcap2 t) t)

-- otherwise one count, as a counter only on its due mark; an overflow sets TF2 and gives 0000 (capture) or the RCAP2 value
-- (auto-reload); then T2EX falling with EXEN2 = 1 sets EXF2 and copies
unfoldable pub capture_step : Timer2 → ℕ → Timer2Counted
capture_step t fell =
    let s = counted2 1 (cond (captures t) 0 (rcap2 t)) t in
    let u = with_t2con (flagged TF2 s.overflows t.t2con) (with_count2 s.count t) in
    record {
      timer2 = cond (heeds_t2ex t fell) (copied2 (with_t2con (set_bit EXF2 u.t2con) u)) u;
      overflows = s.overflows;
      tf2 = s.overflows;
    }

-- step 3: Timer 2, if TR2 = 1; otherwise it neither counts nor heeds T2EX
unfoldable pub timer2_step : Timer2 → ℕ → Timer2Counted
timer2_step t fell =
    cond (eqb (bit TR2 t.t2con) 1)
    (cond (baud_rate t) (baud_step t fell) (capture_step t fell))
    (record { timer2 = t; overflows = 0; tf2 = 0 })
