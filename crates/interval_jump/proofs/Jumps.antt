-- n pulses in closed form are n pulses one by one: by induction on n, a single pulse against the closed form of the rest.
use mathlib.Core.Path.{◌≡◌, refl, sym, ap, ap₂, ◌∙◌}
use mathlib.Core.Bool.{true, false, cond}
use Prim.Native.Nat.{ℕ, zero, suc, ◌+◌, ◌-◌, ◌%◌, ◌≤◌, zero-le}
use native.Mathlib.Nat.{mod-eq_of_lt, mod-eq-sub-mod}
use native.Mathlib.Omega.{arith}
use lib.Dec.{eqb, leb, ltb}
use borrow.Author.Tests.{ne_eqb, le-ltb, le-leb, lt-leb, leb-true, leb-false, eqb-true, eqb-false}
use Rattle.machine.proofs.Choices.{by_test}
use Rattle.interval.specs.declared.Counter.{Counter}
use Rattle.interval.specs.Count.{most, one_below}
use Rattle.interval.specs.Counter.{with_gate, stands, load, counts0, down0, pulse0, down2, again, reloads, pulse2, pulse, pulses}
use Rattle.interval.proofs.Ranges.{Within}
use Rattle.interval.proofs.Counts.{below_zero, below_suc, below_le, most_least}
use Rattle.interval.proofs.Pulses.{Ready, pulse_ready, again_le}
use Rattle.interval_jump.specs.Jump.{down_by, left, after0, within2, after2, steady}
use Rattle.interval_jump.proofs.Down.{down_none, down_more, rises, falls}

-- the gate stays as it was
gated : (g : ℕ) (k : Counter) → k.gate ≡ g → with_gate g k ≡ k
unfolding with_gate
gated g k e =
    λ i. record {
      mode = k.mode;
      bcd = k.bcd;
      format = k.format;
      output = k.output;
      gate = sym e i;
      loaded = k.loaded;
      waits = k.waits;
      first = k.first;
      low = k.low;
      high = k.high;
      latched = k.latched;
      count = k.count;
      reload = k.reload;
      waiting = k.waiting;
      latch = k.latch;
    }

-- a pulse that changes nothing, n times
still : (n g : ℕ) (k : Counter) → pulse g k ≡ k → pulses n g k ≡ k
unfolding pulses
still zero g k e = refl
still (suc n) g k e = ap (pulses n g) e ∙ still n g k e

-- Mode 0

-- while it counts only the count and the output change
module _ (g : ℕ) (k : Counter) (m : eqb k.mode 0 ≡ true) (w : eqb k.waits 1 ≡ false) (e : k.gate ≡ g) where
  abbrev top : ℕ
  top = most k.bcd

  step0 : counts0 g k ≡ true → (c o : ℕ)
      → pulse g (stands c o k) ≡ stands (one_below top c) (cond (eqb (one_below top c) 0) 1 o) k
  unfolding pulse pulse0 down0 counts0 stands
  step0 t c o = simp (m, w, t) (gated g (stands _ _ k) e)

  counted0 : counts0 g k ≡ true → (n c o : ℕ) → c ≤ top
      → pulses n g (stands c o k) ≡ stands (down_by top n c) (cond (ltb (one_below top c) n) 1 o) k
  unfolding pulses
  counted0 t zero c o h =
      ap₂ (λ (x y : ℕ). stands x y k) (sym (down_none top c h)) (sym (simp (le-ltb (one_below top c) 0 zero-le)))
  counted0 t (suc n) c o h =
      ap (pulses n g) (step0 t c o)
      ∙ counted0 t n (one_below top c) (cond (eqb (one_below top c) 0) 1 o) (below_le top c h)
      ∙ ap₂ (λ (x y : ℕ). stands x y k) (down_more top n c h) (rises top (one_below top c) n o)

  stopped0 : counts0 g k ≡ false → pulse g k ≡ k
  unfolding pulse pulse0
  stopped0 t = simp (m, w, t) (gated g k e)

  steady0 : (n : ℕ) → k.count ≤ top → pulses n g k ≡ cond (counts0 g k) (after0 n k) k
  unfolding after0 left stands
  steady0 n h =
      by_test (counts0 g k) (λ t. simp t (counted0 t n k.count k.output h)) (λ t. simp t (still n g k (stopped0 t)))

-- Mode 2, the gate high

record Runs (k : Counter) : Type 0 where
  mode : eqb k.mode 0 ≡ false
  loaded : eqb k.loaded 1 ≡ true
  gate : k.gate ≡ 1
  count : k.count ≤ most k.bcd
  again : again k ≤ most k.bcd

module _ (k : Counter) (r : Runs k) where
  reloaded : Counter
  reloaded = load (again k) 1 k

  low_gate : eqb k.gate 0 ≡ false
  low_gate = ne_eqb k.gate 0 (λ z. omega (arith, r.gate))

  reload_step : eqb k.count 1 ≡ true → pulse 1 k ≡ reloaded
  unfolding pulse pulse2 reloads reloaded load
  reload_step t = simp (r.mode, r.loaded, low_gate, t) (gated 1 (load (again k) 1 k) r.gate)

  down_step : eqb k.count 1 ≡ false → pulse 1 k ≡ stands (left k) (cond (eqb (left k) 1) 0 k.output) k
  unfolding pulse pulse2 reloads down2 stands left
  down_step t = simp (r.mode, r.loaded, low_gate, t) (gated 1 (stands _ _ k) r.gate)

  runs_reloaded : Runs reloaded
  unfolding reloaded load again
  runs_reloaded = record { mode = r.mode; loaded = refl; gate = r.gate; count = r.again; again = r.again }

  runs_down : (o : ℕ) → Runs (stands (left k) o k)
  unfolding stands again left
  runs_down o =
      record {
        mode = r.mode;
        loaded = r.loaded;
        gate = r.gate;
        count = below_le (most k.bcd) k.count r.count;
        again = r.again;
      }

  none_left : eqb k.count 1 ≡ true → left k ≡ 0
  unfolding left
  none_left t = ap (one_below (most k.bcd)) (eqb-true k.count 1 t) ∙ below_suc (most k.bcd) 0

  some_left : eqb k.count 1 ≡ false → left k ≡ 0 → ⊥
  unfolding left
  some_left t e = eqb-false k.count 1 t (one k.count (most k.bcd) (most_least k.bcd) e)
    where
      one : (c t : ℕ) → 1 ≤ t → one_below t c ≡ 0 → c ≡ 1
      one zero t h q = absurd (omega (arith, below_zero t))
      one (suc c) t h q = omega (arith, below_suc t c)

  -- no pulse
  none2 : after2 0 k ≡ k
  unfolding after2 within2 stands
  none2 =
      simp (le-leb 0 (left k) zero-le)
      (ap (λ (n : ℕ). stands n k.output k) (down_none (most k.bcd) k.count r.count))

  -- a pulse that reloads: the laps after it are whole
  laps : (n : ℕ) → eqb k.count 1 ≡ true → after2 n reloaded ≡ after2 (suc n) k
  unfolding after2 reloaded load again
  laps n t =
      by_test (leb n (left reloaded))
      (λ y.
      let l = leb-true n (left reloaded) y in
      simp (y, lt-leb (suc n) (left k) (omega (arith, none_left t)))
      (ap (λ (m : ℕ). within2 m reloaded)
      (sym (ap (λ (m : ℕ). m % (left reloaded + 1)) first ∙ mod-eq_of_lt {n = n} {m = left reloaded + 1} (omega arith)))))
      (λ y.
      let l = leb-false n (left reloaded) y in
      simp (y, lt-leb (suc n) (left k) (omega (arith, none_left t)))
      (ap (λ (m : ℕ). within2 m reloaded)
      (sym (ap (λ (m : ℕ). m % (left reloaded + 1)) first ∙ mod-eq-sub-mod {n = n} {m = left reloaded + 1} (omega arith)))))
    where
      first : suc n - (left k + 1) ≡ n
      first = omega (arith, none_left t)

  -- a pulse that counts down: one less is left of the lap
  module _ (n : ℕ) (t : eqb k.count 1 ≡ false) where
    next : Counter
    next = stands (left k) (cond (eqb (left k) 1) 0 k.output) k

    less : suc (left next) ≡ left k
    unfolding left stands next
    less = by (left k) (some_left t)
      where
        by : (d : ℕ) → (d ≡ 0 → ⊥) → suc (one_below (most k.bcd) d) ≡ d
        by zero z = absurd (z refl)
        by (suc d) z = ap suc (below_suc (most k.bcd) d)

    inside : n ≤ left next → within2 n next ≡ within2 (suc n) k
    unfolding within2 next stands left
    inside h =
        ap₂ (λ (x y : ℕ). stands x y k) (down_more (most k.bcd) n k.count r.count)
        (falls (most k.bcd) (left k) n k.output (some_left t) h)

    shorter : after2 n next ≡ after2 (suc n) k
    unfolding after2 load reloaded next stands again
    shorter =
        by_test (leb n (left next))
        (λ y.
        let l = leb-true n (left next) y in
        simp (y, le-leb (suc n) (left k) (omega (arith, less))) (inside l))
        (λ y.
        let l = leb-false n (left next) y in
        simp (y, lt-leb (suc n) (left k) (omega (arith, less)))
        (ap (λ (m : ℕ). within2 (m % (left reloaded + 1)) reloaded) same))
      where
        same : n - (left next + 1) ≡ suc n - (left k + 1)
        same = omega (arith, less)

counted2 : (n : ℕ) (k : Counter) → Runs k → pulses n 1 k ≡ after2 n k
unfolding pulses next
counted2 zero k r = sym (none2 k r)
counted2 (suc n) k r =
    by_test (eqb k.count 1)
    (λ t. ap (pulses n 1) (reload_step k r t) ∙ counted2 n (reloaded k r) (runs_reloaded k r) ∙ laps k r n t)
    (λ t. ap (pulses n 1) (down_step k r t) ∙ counted2 n (next k r n t) (runs_down k r _) ∙ shorter k r n t)

-- Mode 2, the gate low, and before the first load

module _ (g : ℕ) (k : Counter) (m : eqb k.mode 0 ≡ false) (e : k.gate ≡ g) where
  waits2 : eqb k.loaded 1 ≡ false → eqb k.waits 1 ≡ false → pulse g k ≡ k
  unfolding pulse pulse2
  waits2 l w = simp (m, l, w) (gated g k e)

  forced_step : eqb k.loaded 1 ≡ true → eqb g 1 ≡ false → (o : ℕ) → pulse g (stands k.count o k) ≡ stands k.count 1 k
  unfolding pulse pulse2 stands
  forced_step l t o = simp (m, l, t) (gated g (stands k.count 1 k) e)

  forced : eqb k.loaded 1 ≡ true → eqb g 1 ≡ false → (n : ℕ) → pulses n g k ≡ stands k.count (cond (eqb n 0) k.output 1) k
  unfolding pulses stands
  forced l t zero = refl
  forced l t (suc n) =
      ap (pulses n g) (forced_step l t k.output) ∙ still n g (stands k.count 1 k) (forced_step l t 1)
      ∙ sym (simp (ne_eqb (suc n) 0 (λ z. omega arith)))

-- All of them

-- n pulses that find the gate as it was
pub steady_law : (n g : ℕ) (k : Counter) → Ready g k → pulses n g k ≡ steady n g k
unfolding steady
steady_law n g k r =
    by_test (eqb k.mode 0)
    (λ m. simp m (steady0 g k m (r.none0 m) r.gate n r.within.counts.count))
    (λ m. simp m
    (by_test (eqb k.loaded 1)
    (λ l. simp l
    (by_test (eqb g 1)
    (λ t. simp t (ap (λ (h : ℕ). pulses n h k) (eqb-true g 1 t) ∙ counted2 n k (runs m l (eqb-true g 1 t))))
    (λ t. simp t (forced g k m r.gate l t n))))
    (λ l. simp l (still n g k (waits2 g k m r.gate l (r.none2 m l))))))
  where
    runs : eqb k.mode 0 ≡ false → eqb k.loaded 1 ≡ true → g ≡ 1 → Runs k
    runs m l e = record { mode = m; loaded = l; gate = r.gate ∙ e; count = r.within.counts.count; again = again_le k r.within }

-- n pulses: one, and then the closed form of the others
pub jump_law : (n g : ℕ) (k : Counter) → g ≤ 1 → Within k → pulses (suc n) g k ≡ steady n g (pulse g k)
unfolding pulses
jump_law n g k h w = steady_law n g (pulse g k) (pulse_ready g k w h)
