-- From the nearest pair to the answer: the first pair that fits is the first nearest, if it is within the tolerance; else none fits.
use Rattle.std.proofs.Common.{ℕ, zero, suc, ◌+◌, ◌*◌, ◌≤◌, ◌<◌, ◌≡◌, refl, Bool, true, false, ⊎_elim, eq-or-lt_of_le, arith, Decides}
use Rattle.std.proofs.lemmas.Bool.Decides.{nat_tests, Decides-below_and}
use Rattle.machine.proofs.Choices.{by_test, clash}
use Rattle.baud.specs.declared.Pair.{Pair}
use Rattle.baud.specs.Answers.{Refused, Nothing}
use Rattle.baud.specs.Speed.{PAIRS, allowed, away, within, as_near, pair_at, every, fits, found, first_from, search, speed}
use Rattle.speed.specs.Nearest.{FirstNearest}
use Rattle.speed.proofs.Fractions.{at_most_trans, away_positive}
use Rattle.speed.proofs.Nearest.{th1_most}

-- a test at every place below n
every_means : (test : ℕ → Bool) (n : ℕ) → Decides (every test n) ((k : ℕ) → k < n → test k ≡ true)
unfolding every
every_means test n = Decides-below_and test (λ k. test k ≡ true) (every test) (λ k. (λ e. e, λ e. e)) refl (λ _. refl) n

module _ (crystal rate tolerance : ℕ) where
  -- what is at least as near as a pair within the tolerance is within it
  pub nearer_within : (p q : Pair) → q.th1 ≤ 255 → as_near crystal rate p q ≡ true → within crystal rate tolerance q ≡ true
      → within crystal rate tolerance p ≡ true
  unfolding as_near within
  nearer_within p q h =
      at_most_trans (away crystal rate p) (away crystal rate q) (record { numerator = rate * tolerance; denominator = 10000 })
      (away_positive crystal rate q h)

  -- what fits is within the tolerance, and as near as every pair
  abbrev as_near_as : Pair → ℕ → Bool
  as_near_as p n = as_near crystal rate p (pair_at n)

  fits_within : (p : Pair) → fits crystal rate tolerance p ≡ true → within crystal rate tolerance p ≡ true
  unfolding fits
  fits_within p e = grind (arith, nat_tests)

  fits_near : (p : Pair) → fits crystal rate tolerance p ≡ true → (k : ℕ) → k < PAIRS → as_near crystal rate p (pair_at k) ≡ true
  unfolding fits
  fits_near p e = (every_means (as_near_as p) PAIRS).0 (grind (arith, nat_tests))

  -- the first that fits
  first_at : (n k b : ℕ) → ((j : ℕ) → j < b → fits crystal rate tolerance (pair_at j) ≡ false)
      → fits crystal rate tolerance (pair_at b) ≡ true → k ≤ b → b < k + n
      → first_from crystal rate tolerance n k ≡ found crystal (pair_at b)
  unfolding first_from
  first_at zero k b f e l m = absurd (omega arith)
  first_at (suc n) k b f e l m =
      ⊎_elim (λ q. rw q (simp e)) (λ h. simp (f k h) (first_at n (suc k) b f e (omega arith) (omega arith))) (eq-or-lt_of_le l)

  first_none : (n k : ℕ) → ((j : ℕ) → j < k + n → fits crystal rate tolerance (pair_at j) ≡ false)
      → first_from crystal rate tolerance n k ≡ Nothing
  unfolding first_from
  first_none zero k f = refl
  first_none (suc n) k f = simp (f k (omega arith)) (first_none n (suc k) (λ j l. f j (omega arith)))

  module _ (b : ℕ) (h : FirstNearest crystal rate PAIRS b) where
    before : (k : ℕ) → k < b → fits crystal rate tolerance (pair_at k) ≡ false
    before k l =
        by_test (fits crystal rate tolerance (pair_at k))
        (λ e. absurd (clash (fits_near (pair_at k) e b h.place) (h.first k l))) (λ e. e)

    here : within crystal rate tolerance (pair_at b) ≡ true → fits crystal rate tolerance (pair_at b) ≡ true
    unfolding fits
    here e = simp (e, (every_means (as_near_as (pair_at b)) PAIRS).1 h.nearest)

    nowhere : within crystal rate tolerance (pair_at b) ≡ false → (k : ℕ) → k < PAIRS → fits crystal rate tolerance (pair_at k) ≡ false
    nowhere e k l =
        by_test (fits crystal rate tolerance (pair_at k))
        (λ f. absurd (clash (nearer_within (pair_at b) (pair_at k) (th1_most k) (h.nearest k l) (fits_within (pair_at k) f)) e)) (λ f. f)

    -- what the search finds
    pub answered : within crystal rate tolerance (pair_at b) ≡ true → search crystal rate tolerance ≡ found crystal (pair_at b)
    unfolding search
    answered e = first_at PAIRS 0 b before (here e) (omega arith) h.place

    pub silent : within crystal rate tolerance (pair_at b) ≡ false → search crystal rate tolerance ≡ Nothing
    unfolding search
    silent e = first_none PAIRS 0 (nowhere e)

  -- the answer, within the limits and outside
  pub searched : allowed crystal rate tolerance ≡ true → speed crystal rate tolerance ≡ search crystal rate tolerance
  unfolding speed
  searched a = simp a

  pub refused : allowed crystal rate tolerance ≡ false → speed crystal rate tolerance ≡ Refused 14
  unfolding speed
  refused a = simp a
