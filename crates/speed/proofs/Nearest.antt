-- The nearest pair, the first of those that are equally near: after one pair, and after one pair more. By the order of fractions.
use Rattle.std.proofs.Common.{ℕ, zero, suc, ◌≤◌, ◌<◌, ◌≡◌, true, false, ⊎_elim, le_of_suc-le-suc, eq-or-lt_of_le, arith}
use borrow.Author.Tests.{not-true, not-false}
use Rattle.machine.proofs.Choices.{by_test, clash}
use Rattle.baud.specs.declared.Pair.{Pair}
use Rattle.baud.specs.Speed.{PAIRS, away, as_near, nearer, pair_at}
use Rattle.speed.specs.Chosen.{IsPair}
use Rattle.speed.specs.Nearest.{FirstNearest}
use Rattle.speed.proofs.Fractions.{at_most_self, at_most_total, at_most_trans, away_positive}

-- a place below 512 is a pair
pub is_pair : (n : ℕ) → n < PAIRS → IsPair (pair_at n)
unfolding pair_at
is_pair n h = record { smod = omega arith; th1 = omega arith }

pub th1_most : (n : ℕ) → (pair_at n).th1 ≤ 255
unfolding pair_at
th1_most n = omega arith

-- what holds below n and at n holds below suc n
pub below_suc : (P : ℕ → Type 0) (n : ℕ) → ((k : ℕ) → k < n → P k) → P n → (k : ℕ) → k < suc n → P k
below_suc P n f p k h = ⊎_elim (λ e. rw e p) (λ l. f k l) (eq-or-lt_of_le (le_of_suc-le-suc h))

module _ (crystal rate : ℕ) where
  near_self : (p : Pair) → as_near crystal rate p p ≡ true
  unfolding as_near
  near_self p = at_most_self (away crystal rate p)

  near_total : (p q : Pair) → as_near crystal rate p q ≡ false → as_near crystal rate q p ≡ true
  unfolding as_near
  near_total p q = at_most_total (away crystal rate p) (away crystal rate q)

  near_trans : (p q r : Pair) → q.th1 ≤ 255 → as_near crystal rate p q ≡ true → as_near crystal rate q r ≡ true
      → as_near crystal rate p r ≡ true
  unfolding as_near
  near_trans p q r h =
      at_most_trans (away crystal rate p) (away crystal rate q) (away crystal rate r)
      (away_positive crystal rate q h)

  pub first_one : FirstNearest crystal rate 1 0
  first_one =
      record {
        place = omega arith;
        nearest = λ k h. let e : k ≡ 0 = omega arith in rw e (near_self (pair_at 0));
        first = λ k h. absurd (omega arith);
      }

  module _ (n b : ℕ) (h : FirstNearest crystal rate n b) where
    -- the next pair takes the place if it is nearer
    pub taken : nearer crystal rate (pair_at n) (pair_at b) ≡ true → FirstNearest crystal rate (suc n) n
    unfolding nearer
    taken e =
        let m = pair_at n in
        let q = pair_at b in
        let far : as_near crystal rate q m ≡ false = not-true _ e in
        let near = near_total q m far in
        record {
          place = omega arith;
          nearest =
              below_suc (λ (k : ℕ). as_near crystal rate m (pair_at k) ≡ true) n
              (λ k l. near_trans m q (pair_at k) (th1_most b) near (h.nearest k l))
              (near_self m);
          first = λ k l.
              by_test (as_near crystal rate (pair_at k) m)
              (λ t. absurd (clash (near_trans q (pair_at k) m (th1_most k) (h.nearest k l) t) far)) (λ t. t);
        }

    -- and else leaves it
    pub kept : nearer crystal rate (pair_at n) (pair_at b) ≡ false → FirstNearest crystal rate (suc n) b
    unfolding nearer
    kept e =
        record {
          place = omega (arith, h.place);
          nearest =
              below_suc (λ (k : ℕ). as_near crystal rate (pair_at b) (pair_at k) ≡ true) n h.nearest (not-false _ e);
          first = h.first;
        }

  -- so there is one among any number of pairs
  pub there_is : (n : ℕ) → (b : ℕ) × FirstNearest crystal rate (suc n) b
  there_is zero = (0, first_one)
  there_is (suc n) =
      let w = there_is n in
      let t = nearer crystal rate (pair_at (suc n)) (pair_at w.0) in
      by_test t (λ e. (suc n, taken (suc n) w.0 w.1 e)) (λ e. (w.0, kept (suc n) w.0 w.1 e))
