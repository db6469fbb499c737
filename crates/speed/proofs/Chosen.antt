-- Request Four as it asks for it: what the answer says is so, and no other answer says what is so. By the first nearest pair, which there
-- always is.
use Rattle.std.proofs.Common.{ℕ, ◌+◌, ◌-◌, ◌*◌, ◌/◌, ◌%◌, ◌≤◌, ◌<◌, ◌≡◌, refl, sym, ◌∙◌, true, false, inl, inr, div-mul-le_self, div-lt_iff_lt-mul, arith, ltb, ltb-true, ltb-false}
use native.Mathlib.Nat.{div-eq_of_lt-le}
use Rattle.machine.proofs.Choices.{by_test, clash}
use Rattle.baud.specs.declared.Pair.{Pair}
use Rattle.baud.specs.declared.Fraction.{Fraction}
use Rattle.baud.specs.Answers.{SpeedAnswer, Refused, Found, Nothing}
use Rattle.baud.specs.Speed.{PAIRS, allowed, rate_of, within, as_near, pair_at, cut_down, speed}
use Rattle.speed.specs.Chosen.{IsPair, Preferred, Chosen, CutDown, Says, Chooses}
use Rattle.speed.specs.Nearest.{FirstNearest}
use Rattle.speed.proofs.Limits.{limits, limits_met}
use Rattle.speed.proofs.Fractions.{denominator_positive}
use Rattle.speed.proofs.Nearest.{is_pair, there_is}
use Rattle.speed.proofs.Outcome.{nearer_within, answered, silent, searched, refused}

-- the place of a pair
abbrev place : Pair → ℕ
place p = 256 * p.smod + (255 - p.th1)

module _ (p : Pair) (i : IsPair p) where
  place_low : place p < PAIRS
  place_low = omega (arith, i.smod)

  placed : pair_at (place p) ≡ p
  unfolding pair_at
  placed =
      let s : place p / 256 ≡ p.smod = omega arith in
      let t : 255 - place p % 256 ≡ p.th1 = omega (arith, i.th1) in
      λ i. record { smod = s i; th1 = t i }

-- places in order are pairs in order of preference
preferred_of : (n : ℕ) (q : Pair) → IsPair q → n ≤ place q → Preferred (pair_at n) q
unfolding pair_at
preferred_of n q i l =
    by_test (ltb (n / 256) q.smod) (λ t. inl (ltb-true _ _ t))
    (λ t.
    let g : q.smod ≤ n / 256 = ltb-false (n / 256) q.smod t in
    let a = i.th1 in
    inr (omega arith, omega arith))

not_preferred : (p : Pair) (n : ℕ) → IsPair p → n < place p → Preferred p (pair_at n) → ⊥
unfolding pair_at
not_preferred p n i l (inl e) = let a = i.th1 in omega arith
not_preferred p n i l (inr e) = let a = i.th1 in let x = e.0 in let y = e.1 in omega arith

-- a division cuts downward, and nothing else does
module _ (f : Fraction) (positive : 0 < f.denominator) where
  cuts : CutDown f (cut_down f)
  unfolding cut_down
  cuts =
      record {
        low = div-mul-le_self f.numerator f.denominator;
        high = (div-lt_iff_lt-mul positive).0 (omega arith);
      }

  only_cut : (n : ℕ) → CutDown f n → n ≡ cut_down f
  unfolding cut_down
  only_cut n c = sym (div-eq_of_lt-le f.denominator c.low c.high)

module _ (crystal rate tolerance : ℕ) where
  -- the first nearest pair, within the tolerance, is the one asked for
  chosen_first : (b : ℕ) → FirstNearest crystal rate PAIRS b → within crystal rate tolerance (pair_at b) ≡ true
      → Chosen crystal rate tolerance (pair_at b)
  chosen_first b h w =
      record {
        pair = is_pair b h.place;
        within = w;
        nearest = λ q i. rw (placed q i) at (h.nearest (place q) (place_low q i));
        preferred = λ q i n.
            by_test (ltb (place q) b)
            (λ t. absurd (clash (rw (placed q i) n) (h.first (place q) (ltb-true _ _ t))))
            (λ t. preferred_of b q i (ltb-false _ _ t));
      }

  -- and the one asked for is the first nearest
  first_chosen : (p : Pair) → Chosen crystal rate tolerance p → FirstNearest crystal rate PAIRS (place p)
  first_chosen p c =
      record {
        place = place_low p c.pair;
        nearest = λ k l. rw (placed p c.pair) (c.nearest (pair_at k) (is_pair k l));
        first = λ k l.
            by_test (as_near crystal rate (pair_at k) (pair_at (place p)))
            (λ t.
            absurd
            (not_preferred p k c.pair l
            (c.preferred (pair_at k) (is_pair k (omega (arith, place_low p c.pair))) (rw (placed p c.pair) at t))))
            (λ t. t);
      }

  -- the nearest pair is not within the tolerance: none is
  none_within : (b : ℕ) → FirstNearest crystal rate PAIRS b → within crystal rate tolerance (pair_at b) ≡ false
      → (p : Pair) → IsPair p → within crystal rate tolerance p ≡ true → ⊥
  none_within b h w p i e =
      clash
      (nearer_within crystal rate tolerance (pair_at b) p i.th1 (rw (placed p i) at (h.nearest (place p) (place_low p i))) e)
      w

  is_so : Says crystal rate tolerance (speed crystal rate tolerance)
  is_so =
      let near = there_is crystal rate 511 in
      let b = near.0 in
      let h = near.1 in
      by_test (allowed crystal rate tolerance)
      (λ a.
      by_test (within crystal rate tolerance (pair_at b))
      (λ w.
      rw (searched crystal rate tolerance a ∙ answered crystal rate tolerance b h w)
      record {
        allowed = limits crystal rate tolerance a;
        chosen = chosen_first b h w;
        achieved = cuts (rate_of crystal (pair_at b)) (denominator_positive crystal (pair_at b) (is_pair b h.place).th1);
      })
      (λ w.
      rw (searched crystal rate tolerance a ∙ silent crystal rate tolerance b h w)
      record { allowed = limits crystal rate tolerance a; none = none_within b h w }))
      (λ a. rw (refused crystal rate tolerance a) (refl, λ l. clash (limits_met crystal rate tolerance l) a))

  is_only : (a : SpeedAnswer) → Says crystal rate tolerance a → a ≡ speed crystal rate tolerance
  is_only (Refused k) s =
      by_test (allowed crystal rate tolerance) (λ a. absurd (s.1 (limits crystal rate tolerance a)))
      (λ a. rw s.0 (sym (refused crystal rate tolerance a)))
  is_only (Found smod th1 n) s =
      let p : Pair = record { smod = smod; th1 = th1 } in
      let i = s.chosen.pair in
      let w : within crystal rate tolerance (pair_at (place p)) ≡ true = rw (placed p i) s.chosen.within in
      let a = limits_met crystal rate tolerance s.allowed in
      let o = searched crystal rate tolerance a ∙ answered crystal rate tolerance (place p) (first_chosen p s.chosen) w in
      rw (only_cut (rate_of crystal p) (denominator_positive crystal p i.th1) n s.achieved) (sym (rw (placed p i) at o))
  is_only Nothing s =
      let near = there_is crystal rate 511 in
      let b = near.0 in
      let a = limits_met crystal rate tolerance s.allowed in
      by_test (within crystal rate tolerance (pair_at b))
      (λ w. absurd (s.none (pair_at b) (is_pair b near.1.place) w))
      (λ w. sym (searched crystal rate tolerance a ∙ silent crystal rate tolerance b near.1 w))

pub chooses : Chooses
chooses = record { so = is_so; only = is_only }
