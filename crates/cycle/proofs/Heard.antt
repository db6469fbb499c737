-- Timer 2's overflow is heard in its own cycle, and nothing else is: from what step 3 hands on of an overflow that sets TF2.
use Rattle.std.proofs.Common.{◌≡◌, ℕ, Bool, true, false, cond, not, ◌&&◌, ◌||◌, eqb, ◌≢◌, sym, refl, ap, ◌∙◌, zero-add, arith, eq-eqb, eqb-true}
use mathlib.Core.Bool.{and-true, and-false}
use Rattle.machine.specs.declared.Timer2.{Timer2}
use Rattle.machine.specs.declared.Timer2Counted.{Timer2Counted}
use Rattle.machine.specs.declared.Interrupts.{Interrupts}
use Rattle.machine.specs.declared.Device.{Device}
use Rattle.machine.specs.Bits.{bit}
use Rattle.machine.specs.Registers.{ET2, TF2, EXF2, TR2, C/T2, T2EX}
use Rattle.machine.specs.Power.{powered_down}
use Rattle.machine.specs.Record.{accepted, pins_of}
use Rattle.machine.specs.Counting.{overflow}
use Rattle.machine.specs.Timers.{clocked, flagged}
use Rattle.machine.specs.Timer2.{count2, rcap2, count_once, count_times, baud_rate, counts_of2, heeds_t2ex, captures, counted2, baud_step, copied2, capture_step, timer2_step}
use Rattle.machine.specs.Interrupts.{none, source, asks, asks_marked, first_of, sources, or_else, choice, offered, none_in_service}
use Rattle.machine.specs.Cycle.{falls, counted, timer2_after, steps, cycle_of}
use Rattle.laws.specs.Ranges.{Timer2Ok}
use Rattle.laws.proofs.Bits.{bit_set_other, bit_flagged, bit_flagged_other}
use Rattle.laws.proofs.Counting.{overflow_at}
use Rattle.machine.proofs.Choices.{chosen, and_two, and_both}
use Rattle.record.proofs.Accepted.{ranges_of}
use Rattle.cycle.specs.Heard.{overflows_next, sets_tf2, timer2_enabled, HeardAtOnce}
use Rattle.cycle.proofs.Steps.{cycle_up}

-- Step 3: whether an overflow sets TF2

-- only an overflow does
pub tf2_none : (t : Timer2) (fell : ℕ) → (timer2_step t fell).overflows ≡ 0 → (timer2_step t fell).tf2 ≡ 0
unfolding timer2_step baud_step capture_step
tf2_none t fell =
    chosen Without (eqb (bit TR2 t.t2con) 1) _ _
    (chosen Without (baud_rate t) (baud_step t fell) (capture_step t fell) (λ e. refl) (λ e. e)) (λ e. refl)
  where
    Without : Timer2Counted → Type 0
    Without r = r.overflows ≡ 0 → r.tf2 ≡ 0

-- the counts of a cycle with capture or auto-reload, of which there is at most one
counted_next : (reload : ℕ) (t : Timer2) → Timer2Ok t → (counted2 1 reload t).overflows ≡ cond (overflows_next t) 1 0
unfolding overflows_next clocked counted2 counts_of2 count_times count_once
counted_next reload t b = go (eqb (bit C/T2 t.t2con) 0) (eqb t.due2 1)
  where
    full : Bool
    full = eqb (count2 t) 0xffff

    after : ℕ → ℕ
    after n = (count_times n reload (record { count = count2 t; overflows = 0 })).overflows

    once : after 1 ≡ cond (full && true) 1 0
    once =
        zero-add (overflow 16 (count2 t))
        ∙ (overflow_at 16 (count2 t) (omega (arith, b.tl2, b.th2)) ∙ ap (λ (x : Bool). cond x 1 0) (sym (and-true full)))

    go : (timer due : Bool) → after (cond timer 1 (cond due 1 0)) ≡ cond (full && (timer || due)) 1 0
    go true due = once
    go false true = once
    go false false = ap (λ (x : Bool). cond x 1 0) (sym (and-false full))

tf2_sets : (t : Timer2) (fell : ℕ) → Timer2Ok t → (timer2_step t fell).tf2 ≡ cond (sets_tf2 t) 1 0
unfolding sets_tf2 timer2_step baud_step capture_step
tf2_sets t fell b = go (eqb (bit TR2 t.t2con) 1) (baud_rate t)
  where
    go : (run baud : Bool)
        → (cond run (cond baud (baud_step t fell) (capture_step t fell)) (record { timer2 = t; overflows = 0; tf2 = 0 })).tf2
        ≡ cond ((run && not baud) && overflows_next t) 1 0
    go false baud = refl
    go true true = refl
    go true false = counted_next (cond (captures t) 0 (rcap2 t)) t b

-- TF2 after the step
tf2_after : (t : Timer2) (fell : ℕ)
    → bit TF2 (timer2_step t fell).timer2.t2con ≡ cond (eqb (timer2_step t fell).tf2 1) 1 (bit TF2 t.t2con)
unfolding timer2_step baud_step capture_step copied2
tf2_after t fell =
    chosen After (eqb (bit TR2 t.t2con) 1) _ _
    (chosen After (baud_rate t) (baud_step t fell) (capture_step t fell)
    (bit_flagged_other TF2 EXF2 (cond (heeds_t2ex t fell) 1 0) t.t2con (omega arith))
    (chosen (λ (u : Timer2). bit TF2 u.t2con ≡ cond (eqb o 1) 1 (bit TF2 t.t2con)) (heeds_t2ex t fell) _ _
    (ap (bit TF2) (copied _) ∙ (bit_set_other TF2 EXF2 (flagged TF2 o t.t2con) (omega arith) ∙ set)) set))
    refl
  where
    After : Timer2Counted → Type 0
    After r = bit TF2 r.timer2.t2con ≡ cond (eqb r.tf2 1) 1 (bit TF2 t.t2con)

    o : ℕ
    o = (counted2 1 (cond (captures t) 0 (rcap2 t)) t).overflows

    set : bit TF2 (flagged TF2 o t.t2con) ≡ cond (eqb o 1) 1 (bit TF2 t.t2con)
    set = bit_flagged TF2 o t.t2con

    -- T2EX's copy leaves T2CON
    copied : (u : Timer2) → (copied2 u).t2con ≡ u.t2con
    copied u = chosen (λ (v : Timer2). v.t2con ≡ u.t2con) (captures u) _ _ refl refl

-- The offer where Timer 2 asks and no other source does

only_first : (f : ℕ → Bool) → ((k : ℕ) → k ≢ ET2 → f k ≡ false) → first_of f sources ≡ cond (f ET2) (source ET2) none
unfolding first_of
only_first f e = simp (e 0 (omega arith), e 1 (omega arith), e 2 (omega arith), e 3 (omega arith), e 4 (omega arith))

marked_or_not : (marked : Bool) → or_else (cond marked (source ET2) none) (source ET2) ≡ source ET2
marked_or_not true = refl
marked_or_not false = refl

only_offered : (pcon : ℕ) (i : Interrupts) → powered_down pcon ≡ false → none_in_service i ≡ true → asks i ET2 ≡ true
    → ((k : ℕ) → k ≢ ET2 → asks i k ≡ false) → offered pcon i ≡ source ET2
unfolding offered choice
only_offered pcon i up free e f =
    let marks = and_two (eqb i.high 0) (eqb i.low 0) free in
    let first = only_first (asks i) f ∙ ap (λ (b : Bool). cond b (source ET2) none) e in
    let marked = only_first (asks_marked i) (λ k h. ap (λ (b : Bool). b && eqb (bit k i.ip) 1) (f k h)) in
    rw (up, eqb-true i.high 0 marks.0, eqb-true i.low 0 marks.1, first, marked) (marked_or_not (asks_marked i ET2))

-- Steps 1 to 8, then the cycle

module _ (d : Device) (a : accepted d ≡ true) (l : ℕ) where
  -- what step 3 hands on
  fell : ℕ
  fell = falls d.levels l T2EX

  tf2 : ℕ
  tf2 = (timer2_step d.timer2 fell).tf2

  sets : Bool
  sets = sets_tf2 d.timer2

  -- a choice by whether an overflow set TF2
  by_sets : (n : ℕ) → cond (eqb tf2 1) 1 n ≡ cond sets 1 n
  unfolding tf2 sets
  by_sets n = ap (λ (x : ℕ). cond (eqb x 1) 1 n) (tf2_sets d.timer2 fell (ranges_of d a).timer2) ∙ go sets
    where
      go : (b : Bool) → cond (eqb (cond b 1 0) 1) 1 n ≡ cond b 1 n
      go true = refl
      go false = refl

  seen : ℕ
  seen = d.interrupts.seen

  polls : bit ET2 (flagged ET2 tf2 seen) ≡ cond sets 1 (bit ET2 seen)
  polls = bit_flagged ET2 tf2 seen ∙ by_sets (bit ET2 seen)

  -- the interrupt controller after the steps
  after : Interrupts
  after = (steps d l).interrupts

  asking : sets ≡ true → timer2_enabled d.interrupts ≡ true → asks after ET2 ≡ true
  unfolding after steps counted tf2 fell seen
  asking set on =
      and_both (eqb (bit ET2 (flagged ET2 tf2 seen)) 1) _ (eq-eqb _ 1 (polls ∙ ap (λ (b : Bool). cond b 1 (bit ET2 seen)) set)) on

  silent : ((k : ℕ) → k ≢ ET2 → bit k seen ≡ 0) → (k : ℕ) → k ≢ ET2 → asks after k ≡ false
  unfolding after steps counted tf2 fell seen
  silent unseen k h = rw (bit_flagged_other k ET2 tf2 seen h ∙ unseen k h) refl

  steps_heard : powered_down d.pcon ≡ false → HeardAtOnce d (steps d l)
  unfolding steps counted timer2_after fell tf2 sets seen after
  steps_heard up =
      record {
        timer2 = polls;
        others = λ k h. bit_flagged_other k ET2 tf2 seen h;
        seen = refl;
        tf2 = tf2_after d.timer2 fell ∙ by_sets (bit TF2 d.timer2.t2con);
        asked = asking;
        offers = λ set on unseen free. only_offered d.pcon after up free (asking set on) (silent unseen);
      }

pub heard_at_once : (pins : ℕ) (d : Device) → accepted d ≡ true → powered_down d.pcon ≡ false → HeardAtOnce d (cycle_of pins d)
heard_at_once pins d a up = rw (cycle_up pins d up) (steps_heard d a (pins_of d.kind pins) up)
