-- A round of the loop over TL1 has its cycles, ends where they end and is one round, and what is left after it goes on from there.
use Rattle.std.proofs.Common.{◌≡◌, ℕ, zero, suc, ◌+◌, ◌-◌, ◌<◌, ◌≤◌, min, false, eqb, leb, sym, refl, ap, ◌∙◌, inl, inr, add-zero, add-sub_of_le, suc-add, zero-add, arith, eq-eqb, ne_eqb, leb-false, leb-true}
use Rattle.machine.proofs.Choices.{by_test}
use Rattle.machine.specs.Rounds.{busy_cycles, quiet_runs, rounds_of}
use Rattle.laws.proofs.Rounds.{Marked, busy_round, quiet_round}
use Rattle.reload.specs.Reload.{Idling, reloaded, raised, idle_cycle, idle_cycles, idle_marks, Rounded}
use Rattle.reload.specs.declared.Clocking.{Clocking}

-- m counts before the reload
idle_raised : (m : ℕ) (k : Clocking) (x : Idling) → x.tl1 + m ≤ 255 → idle_cycles m k x ≡ raised m x
unfolding idle_cycles idle_cycle raised
idle_raised zero k x h = λ i. record { tl1 = sym (add-zero x.tl1) i; th1 = x.th1; half = x.half; counter = x.counter; sample = x.sample }
idle_raised (suc m) k x h =
    let up : x.tl1 + 1 + m ≡ x.tl1 + suc m = omega arith in
    ap (idle_cycles m k) (rw (ne_eqb x.tl1 255 (λ e. omega arith)))
    ∙ (idle_raised m k (raised 1 x) (omega arith)
    ∙ (λ i. record { tl1 = up i; th1 = x.th1; half = x.half; counter = x.counter; sample = x.sample }))

raised_count : (m : ℕ) (k : Clocking) (x : Idling) → x.tl1 + m ≤ 255 → (idle_cycles m k x).tl1 ≡ x.tl1 + m
unfolding raised
raised_count m k x h = ap (λ (y : Idling). y.tl1) (idle_raised m k x h)

idle_add : (m n : ℕ) (k : Clocking) (x : Idling) → idle_cycles (m + n) k x ≡ idle_cycles n k (idle_cycles m k x)
unfolding idle_cycles
idle_add zero n k x = rw zero-add
idle_add (suc m) n k x = rw suc-add (idle_add m n k (idle_cycle k x))

-- a round is one of those that are left: the reload, or the counts up to it or to the end
idle_marked : (k : Clocking) → Marked (λ (x : Idling). eqb x.tl1 255) (idle_cycle k) (λ (n : ℕ) (x : Idling). idle_cycles n k x) (λ (n : ℕ) (x : Idling). idle_marks n k x)
unfolding idle_cycles idle_marks
idle_marked k = record { stays = λ x. refl; goes = λ n x. refl; none = λ x. refl; more = λ n x. refl }

over_counts : (k : Clocking) (x : Idling) (left : ℕ) → x.tl1 ≡ 255 → 1 ≤ left
    → rounds_of (idle_marks left k x) ≡ suc (rounds_of (idle_marks (left - 1) k (idle_cycles 1 k x)))
over_counts k x zero e h = absurd (omega arith)
over_counts k x (suc n) e h =
    let less : n ≡ suc n - 1 = omega arith in
    busy_round (idle_marked k) n x (eq-eqb x.tl1 255 e) ∙ ap (λ (m : ℕ). suc (rounds_of (idle_marks m k (idle_cycles 1 k x)))) less

up_counts : (m : ℕ) (k : Clocking) (x : Idling) (left : ℕ) → x.tl1 < 255 → 1 ≤ left → m ≡ min (255 - x.tl1) left
    → rounds_of (idle_marks left k x) ≡ suc (rounds_of (idle_marks (left - m) k (idle_cycles m k x)))
up_counts zero k x left g h e = absurd (omega arith)
up_counts (suc m) k x left g h e =
    let whole : left ≡ suc (m + (left - suc m)) = omega arith in
    ap (λ (n : ℕ). rounds_of (idle_marks n k x)) whole
    ∙ quiet_round (idle_marked k) m (left - suc m) x
    (λ j less. ne_eqb (idle_cycles j k x).tl1 255 (λ z. omega (arith, raised_count j k x (omega arith))))
    (by_test (leb left (255 - x.tl1)) (λ t. inl (omega (arith, leb-true left (255 - x.tl1) t)))
    (λ t. inr (eq-eqb (idle_cycles (suc m) k x).tl1 255 (omega (arith, leb-false left (255 - x.tl1) t, raised_count (suc m) k x (omega arith))))))

-- the round of the reload, and of the counts before it
pub round_over : (k : Clocking) (x : Idling) (left : ℕ) {y : Idling} → x.tl1 ≡ 255 → 1 ≤ left → y ≡ reloaded k x
    → Rounded k x left 1 y
unfolding idle_cycles idle_cycle
round_over k x left e h p =
    let there : idle_cycles 1 k x ≡ reloaded k x = simp e in
    record {
      moves = omega arith;
      most = h;
      reaches = p ∙ sym there;
      counts = over_counts k x left e h ∙ ap (λ (z : Idling). suc (rounds_of (idle_marks (left - 1) k z))) (there ∙ sym p);
    }

pub round_up : (k : Clocking) (x : Idling) (left : ℕ) {m : ℕ} {y : Idling} → eqb x.tl1 255 ≡ false → x.tl1 < 255 → 1 ≤ left
    → m ≡ min (255 - x.tl1) left → y ≡ raised m x → Rounded k x left m y
round_up k x left {m} z g h e p =
    record {
      moves = omega arith;
      most = omega arith;
      reaches = p ∙ sym (idle_raised m k x (omega arith));
      counts =
          up_counts m k x left g h e
          ∙ ap (λ (z : Idling). suc (rounds_of (idle_marks (left - m) k z))) (idle_raised m k x (omega arith) ∙ sym p);
    }

-- no cycles: no step, and no round
idle_none : (n : ℕ) (k : Clocking) (x : Idling) → n ≤ 0 → idle_cycles n k x ≡ x
unfolding idle_cycles
idle_none zero k x h = refl
idle_none (suc n) k x h = absurd (omega arith)

rounds_none : (n : ℕ) (k : Clocking) (x : Idling) → n ≤ 0 → rounds_of (idle_marks n k x) ≡ 0
unfolding idle_marks busy_cycles quiet_runs
rounds_none zero k x h = refl
rounds_none (suc n) k x h = absurd (omega arith)

-- The loop between two rounds: what is left, from where it stands, ends where all of it ends, and takes the rounds that are still to be
-- counted
pub record Going (k : Clocking) (n : ℕ) (start x : Idling) (left done : ℕ) : Type 0 where
  pub within : done + left ≤ n
  pub ends : idle_cycles left k x ≡ idle_cycles n k start
  pub counts : done + rounds_of (idle_marks left k x) ≡ rounds_of (idle_marks n k start)

pub going_first : (k : Clocking) (n : ℕ) (x : Idling) → Going k n x x n 0
going_first k n x = record { within = omega arith; ends = refl; counts = omega arith }

module _ {k : Clocking} {n : ℕ} {start x : Idling} {left done : ℕ} (g : Going k n start x left done) where
  -- a round
  pub going_on : {used : ℕ} {y : Idling} → Rounded k x left used y → Going k n start y (left - used) (done + 1)
  going_on {used} f =
      record {
        within = omega (arith, g.within, f.moves, f.most);
        ends =
            ap (idle_cycles (left - used) k) f.reaches
            ∙ (sym (idle_add used (left - used) k x)
            ∙ (ap (λ (m : ℕ). idle_cycles m k x) (add-sub_of_le f.most) ∙ g.ends));
        counts = omega (arith, g.counts, f.counts);
      }

  -- after the last
  module _ (none : left ≤ 0) where
    pub going_end : x ≡ idle_cycles n k start
    going_end = sym (idle_none left k x none) ∙ g.ends

    pub going_count : done ≡ rounds_of (idle_marks n k start)
    going_count = omega (arith, g.counts, rounds_none left k x none)
