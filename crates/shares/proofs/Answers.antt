-- The answer by the two tests, each of which is what the request says in words.
use Rattle.std.proofs.Common.{ℕ, ◌^◌, ◌≤◌, ◌<◌, ◌≡◌, true, false, leb, List, length, get_or, refl, arith, leb-true, le-leb}
use Rattle.std.proofs.lemmas.Bool.Decides.{nat_tests}
use Rattle.std.proofs.lemmas.List.Recursion.{and_at, and_from_places}
use Rattle.machine.specs.Calls.{longest}
use Rattle.slices.specs.Shares.{Shared, tunnels_ok, wishes_ok, slice_ok, shares_of, shares_fault, shares_answer}
use Rattle.shares.specs.Fair.{Sized, Limited}

-- 1 to 64 tunnels, and an output with a place for each
module _ (ws : List ℕ) (n : ℕ) where
  pub sized : tunnels_ok ws n ≡ true → Sized ws n
  unfolding tunnels_ok
  sized e =
      record {
        some = grind (arith, nat_tests);
        few = grind (arith, nat_tests);
        room = grind (arith, nat_tests);
      }

  pub sized_met : Sized ws n → tunnels_ok ws n ≡ true
  unfolding tunnels_ok
  sized_met s = grind (arith, nat_tests)

-- the slice and each wish within the limit
wish_at : (ws : List ℕ) → wishes_ok ws ≡ true → (i : ℕ) → i < length ws → get_or ws i 0 ≤ 2 ^ 40
unfolding wishes_ok
wish_at ws e i h = leb-true (get_or ws i 0) longest (and_at wishes_ok (λ w. leb w longest) refl (λ _ _. refl) ws i 0 h e)

wishes_met : (ws : List ℕ) → ((i : ℕ) → i < length ws → get_or ws i 0 ≤ 2 ^ 40) → wishes_ok ws ≡ true
unfolding wishes_ok
wishes_met ws f =
    and_from_places wishes_ok (λ w. leb w longest) refl (λ _ _. refl) ws 0 (λ i h. le-leb (get_or ws i 0) longest (f i h))

module _ (b : ℕ) (ws : List ℕ) where
  pub limited : slice_ok b ws ≡ true → Limited b ws
  unfolding slice_ok
  limited e = record { slice = grind (arith, nat_tests); wish = wish_at ws (grind (arith, nat_tests)) }

  pub limited_met : Limited b ws → slice_ok b ws ≡ true
  unfolding slice_ok
  limited_met l = grind (arith, nat_tests, wishes_met ws l.wish)

-- the three answers
abbrev pub answers : ℕ → List ℕ → Shared
answers code output = record { code = code; output = output }

module _ (b : ℕ) (ws out : List ℕ) where
  pub bad_tunnels_lem : tunnels_ok ws (length out) ≡ false → answers 18 out ≡ shares_answer b ws out
  unfolding shares_fault shares_answer
  bad_tunnels_lem e = rw e

  pub bad_wish_lem : tunnels_ok ws (length out) ≡ true → slice_ok b ws ≡ false → answers 19 out ≡ shares_answer b ws out
  unfolding shares_fault shares_answer
  bad_wish_lem e f = rw (e, f)

  pub shared : tunnels_ok ws (length out) ≡ true → slice_ok b ws ≡ true → answers 0 (shares_of b ws) ≡ shares_answer b ws out
  unfolding shares_fault shares_answer
  shared e f = rw (e, f)
