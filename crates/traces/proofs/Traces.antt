-- A trace from its entry i on: what checking and running one entry leaves, and the overflows of those still to run.
use Prim.Native.Nat.{ℕ, suc, ◌+◌, ◌*◌, ◌^◌, ◌≤◌, ◌<◌}
use mathlib.Core.Path.{◌≡◌, refl, sym, ap, ◌∙◌}
use mathlib.Core.Bool.{cond}
use mathlib.Core.List.{List, [], ◌∷◌}
use native.Mathlib.Numerals.{add-one}
use native.Mathlib.Omega.{arith}
use borrow.Author.Tests.{eq-eqb, ne_eqb}
use lib.Dec.{eqb}
use lib.ListN.{length, drop, get_or, drop_of_length-le}
use lib.Seq.{drop-cons}
use Rattle.machine.specs.declared.Totals.{Totals}
use Rattle.machine.specs.declared.Device.{Device}
use Rattle.machine.specs.Cycle.{cycles}
use Rattle.machine.specs.Totals.{no_totals, added, totals, Within}
use Rattle.machine.specs.Calls.{entry_pins, entry_cycles, entry_fault, first_bad, trace_cycles, trace_totals}
use Rattle.laws.specs.Ranges.{Ranges}
use Rattle.totals.proofs.Sums.{added_on}
use Rattle.strides.proofs.Runs.{cycles_ranges}
use Rattle.strides.proofs.Totals.{totals_within}

-- the first bad entry's number is that of the first entry, or else of the others
bad_first : (e : ℕ) (es : List ℕ) → first_bad (e ∷ es) ≡ cond (eqb (entry_fault e) 0) (first_bad es) (entry_fault e)
unfolding first_bad
bad_first e es = refl

-- the entries of a trace from the first on
run_first : (e : ℕ) (es : List ℕ) (d : Device) → trace_cycles (e ∷ es) d ≡ trace_cycles es (cycles (entry_cycles e) (entry_pins e) d)
unfolding trace_cycles
run_first e es d = refl

sum_first : (e : ℕ) (es : List ℕ) (d : Device)
    → trace_totals (e ∷ es) d ≡ added (totals (entry_cycles e) (entry_pins e) d) (trace_totals es (cycles (entry_cycles e) (entry_pins e) d))
unfolding trace_totals
sum_first e es d = refl

-- the most of a trace
pub trace_within : (es : List ℕ) (d : Device) → Ranges d → Within (length es * 2 ^ 24) (trace_totals es d)
unfolding trace_totals
trace_within [] d r = record { timer0 = omega arith; timer1 = omega arith; timer2 = omega arith }
trace_within (e ∷ es) d r =
    let k = entry_cycles e in
    let one = totals_within k (entry_pins e) d r in
    let others = trace_within es (cycles k (entry_pins e) d) (cycles_ranges k (entry_pins e) d r) in
    let few : k ≤ 2 ^ 24 = omega arith in
    record {
      timer0 = omega (arith, one.timer0, others.timer0);
      timer1 = omega (arith, one.timer1, others.timer1);
      timer2 = omega (arith, one.timer2, others.timer2);
    }

module _ (es : List ℕ) (i : ℕ) where
  pub bad_end : length es ≤ i → first_bad (drop i es) ≡ 0
  unfolding first_bad
  bad_end h = rw (drop_of_length-le es h)

  pub run_end : (d : Device) → length es ≤ i → trace_cycles (drop i es) d ≡ d
  unfolding trace_cycles
  run_end d h = rw (drop_of_length-le es h)

  pub sum_end : (d : Device) → length es ≤ i → trace_totals (drop i es) d ≡ no_totals
  unfolding trace_totals
  sum_end d h = rw (drop_of_length-le es h)

  module _ (h : i < length es) where
    pub bad_here : (entry_fault (get_or es i 0) ≡ 0 → ⊥) → first_bad (drop i es) ≡ entry_fault (get_or es i 0)
    bad_here f = rw (drop-cons es i 0 h) (bad_first (get_or es i 0) _ ∙ simp (ne_eqb (entry_fault (get_or es i 0)) 0 f))

    pub bad_on : entry_fault (get_or es i 0) ≡ 0 → first_bad (drop i es) ≡ first_bad (drop (i + 1) es)
    bad_on e =
        rw (add-one, drop-cons es i 0 h) (bad_first (get_or es i 0) _ ∙ simp (eq-eqb (entry_fault (get_or es i 0)) 0 e))

    -- the entries after one that was run end where all of them end
    pub run_on : (d : Device) {n pins : ℕ} {u v : Device} → n ≡ entry_cycles (get_or es i 0) → pins ≡ entry_pins (get_or es i 0)
        → u ≡ cycles n pins d → trace_cycles (drop i es) d ≡ v → trace_cycles (drop (i + 1) es) u ≡ v
    run_on d e f g inv =
        ap (trace_cycles (drop (i + 1) es)) (g ∙ (λ j. cycles (e j) (f j) d))
        ∙ (rw (add-one, ← run_first (get_or es i 0) (drop (suc i) es) d, ← drop-cons es i 0 h) inv)

    -- and their overflows, with those that were added up, are those of all
    sum_here : (d : Device)
        → trace_totals (drop i es) d
        ≡ added (totals (entry_cycles (get_or es i 0)) (entry_pins (get_or es i 0)) d)
        (trace_totals (drop (i + 1) es) (cycles (entry_cycles (get_or es i 0)) (entry_pins (get_or es i 0)) d))
    sum_here d = rw (add-one, drop-cons es i 0 h) (sum_first (get_or es i 0) (drop (suc i) es) d)

    pub sum_on : (d : Device) (sum : Totals) {n pins : ℕ} {u : Device} {t v : Totals} → n ≡ entry_cycles (get_or es i 0)
        → pins ≡ entry_pins (get_or es i 0) → u ≡ cycles n pins d → t ≡ added sum (totals n pins d)
        → added sum (trace_totals (drop i es) d) ≡ v → added t (trace_totals (drop (i + 1) es) u) ≡ v
    sum_on d sum e f g k inv =
        let here = k ∙ (λ j. added sum (totals (e j) (f j) d)) in
        let after = g ∙ (λ j. cycles (e j) (f j) d) in
        (λ j. added (here j) (trace_totals (drop (i + 1) es) (after j))) ∙ (added_on sum _ _ ∙ (ap (added sum) (sym (sum_here d)) ∙ inv))
