-- What a pulse keeps: every field in its range; and after it the gate is as given, and what can be loaded at once has been loaded.
use mathlib.Core.Path.{◌≡◌, refl}
use mathlib.Core.Bool.{Bool, true, false, cond}
use Prim.Native.Nat.{ℕ, zero, suc, ◌≤◌, zero-le}
use native.Mathlib.Omega.{arith}
use lib.Dec.{eqb}
use Rattle.machine.specs.Bits.{bit}
use Rattle.machine.proofs.Choices.{chosen, cond_has, clash}
use Rattle.interval.specs.declared.Counter.{Counter}
use Rattle.interval.specs.declared.Interval.{Interval}
use Rattle.interval.specs.Count.{most, one_below}
use Rattle.interval.specs.Counter.{with_gate, stands, load, counts0, down0, pulse0, down2, again, reloads, pulse2, pulse, pulses}
use Rattle.interval.specs.Interval.{pulse_all, pulses_all}
use Rattle.interval.proofs.Ranges.{Within}
use Rattle.interval.proofs.Counts.{below_le}

module _ (k : Counter) (w : Within k) where
  within_gate : (g : ℕ) → g ≤ 1 → Within (with_gate g k)
  unfolding with_gate
  within_gate g h =
      record { set = w.set; levels = record { output = w.levels.output; gate = h }; counts = w.counts; begun = w.begun; reads = w.reads }

  within_stands : (n o : ℕ) → n ≤ most k.bcd → o ≤ 1 → Within (stands n o k)
  unfolding stands
  within_stands n o h l =
      let c = w.counts in
      record {
        set = w.set;
        levels = record { output = l; gate = w.levels.gate };
        counts = record { loaded = c.loaded; waits = c.waits; count = h; reload = c.reload; waiting = c.waiting };
        begun = w.begun;
        reads = w.reads;
      }

  within_load : (n o : ℕ) → n ≤ most k.bcd → o ≤ 1 → Within (load n o k)
  unfolding load
  within_load n o h l =
      record {
        set = w.set;
        levels = record { output = l; gate = w.levels.gate };
        counts = record { loaded = omega arith; waits = zero-le; count = h; reload = h; waiting = zero-le };
        begun = w.begun;
        reads = w.reads;
      }

  pub again_le : again k ≤ most k.bcd
  unfolding again
  again_le = chosen (λ (n : ℕ). n ≤ most k.bcd) (eqb k.waits 1) _ _ w.counts.waiting w.counts.reload

  below : one_below (most k.bcd) k.count ≤ most k.bcd
  below = below_le (most k.bcd) k.count w.counts.count

  level : (b : Bool) (x : ℕ) → x ≤ 1 → cond b x k.output ≤ 1
  level b x h = chosen (λ (o : ℕ). o ≤ 1) b _ _ h w.levels.output

  within_down0 : Within (down0 k)
  unfolding down0
  within_down0 = within_stands _ _ below (level (eqb (one_below (most k.bcd) k.count) 0) 1 (omega arith))

  within_down2 : Within (down2 k)
  unfolding down2
  within_down2 = within_stands _ _ below (level (eqb (one_below (most k.bcd) k.count) 1) 0 zero-le)

-- what holds after a pulse, and stays while the gate stays
pub record Ready (g : ℕ) (k : Counter) : Type 0 where
  pub within : Within k
  pub gate : k.gate ≡ g
  pub none0 : eqb k.mode 0 ≡ true → eqb k.waits 1 ≡ false
  pub none2 : eqb k.mode 0 ≡ false → eqb k.loaded 1 ≡ false → eqb k.waits 1 ≡ false

-- in mode 0 nothing waits
record Mode0 (k : Counter) : Type 0 where
  within : Within k
  mode : eqb k.mode 0 ≡ true
  none : eqb k.waits 1 ≡ false

-- in mode 2 nothing waits before the first load
record Mode2 (k : Counter) : Type 0 where
  within : Within k
  mode : eqb k.mode 0 ≡ false
  none : eqb k.loaded 1 ≡ false → eqb k.waits 1 ≡ false

module _ (g : ℕ) (k : Counter) (w : Within k) where
  loads0 : eqb k.mode 0 ≡ true → Mode0 (load k.waiting k.output k)
  unfolding load
  loads0 m = record { within = within_load k w k.waiting k.output w.counts.waiting w.levels.output; mode = m; none = refl }

  downs0 : eqb k.mode 0 ≡ true → eqb k.waits 1 ≡ false → Mode0 (down0 k)
  unfolding down0 stands
  downs0 m n = record { within = within_down0 k w; mode = m; none = n }

  after0 : eqb k.mode 0 ≡ true → Mode0 (pulse0 g k)
  unfolding pulse0
  after0 m =
      cond_has Mode0 (eqb k.waits 1) _ _ (λ t. loads0 m)
      (λ t. chosen Mode0 (counts0 g k) _ _ (downs0 m t) (record { within = w; mode = m; none = t }))

  loads2 : (n o : ℕ) → n ≤ most k.bcd → o ≤ 1 → eqb k.mode 0 ≡ false → Mode2 (load n o k)
  unfolding load
  loads2 n o h l m = record { within = within_load k w n o h l; mode = m; none = λ e. refl }

  downs2 : eqb k.mode 0 ≡ false → eqb k.loaded 1 ≡ true → Mode2 (down2 k)
  unfolding down2 stands
  downs2 m t = record { within = within_down2 k w; mode = m; none = λ e. absurd (clash t e) }

  forces2 : eqb k.mode 0 ≡ false → eqb k.loaded 1 ≡ true → Mode2 (stands k.count 1 k)
  unfolding stands
  forces2 m t =
      record { within = within_stands k w k.count 1 w.counts.count (omega arith); mode = m; none = λ e. absurd (clash t e) }

  after2 : eqb k.mode 0 ≡ false → Mode2 (pulse2 g k)
  unfolding pulse2
  after2 m =
      cond_has Mode2 (eqb k.loaded 1) _ _
      (λ t. chosen Mode2 (eqb g 1) _ _
      (chosen Mode2 (reloads g k) _ _ (loads2 (again k) 1 (again_le k w) (omega arith) m) (downs2 m t)) (forces2 m t))
      (λ t. cond_has Mode2 (eqb k.waits 1) _ _ (λ y. loads2 k.waiting k.output w.counts.waiting w.levels.output m)
      (λ y. record { within = w; mode = m; none = λ e. y }))

  gated0 : (j : Counter) → g ≤ 1 → Mode0 j → Ready g (with_gate g j)
  unfolding with_gate
  gated0 j h p =
      record { within = within_gate j p.within g h; gate = refl; none0 = λ e. p.none; none2 = λ e f. absurd (clash p.mode e) }

  gated2 : (j : Counter) → g ≤ 1 → Mode2 j → Ready g (with_gate g j)
  unfolding with_gate
  gated2 j h p =
      record { within = within_gate j p.within g h; gate = refl; none0 = λ e. absurd (clash e p.mode); none2 = λ e f. p.none f }

  -- a pulse leaves a counter ready
  pub pulse_ready : g ≤ 1 → Ready g (pulse g k)
  unfolding pulse
  pulse_ready h =
      cond_has (λ (j : Counter). Ready g (with_gate g j)) (eqb k.mode 0) _ _ (λ m. gated0 (pulse0 g k) h (after0 m))
      (λ m. gated2 (pulse2 g k) h (after2 m))

-- n pulses keep every range
pub pulses_within : (n g : ℕ) (k : Counter) → g ≤ 1 → Within k → Within (pulses n g k)
unfolding pulses
pulses_within zero g k h w = w
pulses_within (suc n) g k h w = pulses_within n g (pulse g k) h (pulse_ready g k w h).within

-- n pulses of the chip are n pulses of each counter
pub pulses_all_each : (n gates : ℕ) (c : Interval)
    → pulses_all n gates c
    ≡ record {
      counter0 = pulses n (bit 0 gates) c.counter0;
      counter1 = pulses n (bit 1 gates) c.counter1;
      counter2 = pulses n (bit 2 gates) c.counter2;
    }
unfolding pulses_all pulse_all pulses
pulses_all_each zero gates c = refl
pulses_all_each (suc n) gates c = pulses_all_each n gates (pulse_all gates c)
