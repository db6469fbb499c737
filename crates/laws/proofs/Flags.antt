-- A flag that stays does not rise: no number is both 0 and 1. Where none rises the flag times stay, and a cycle keeps them in their range.
-- By induction on the lists.
use mathlib.Core.Path.{◌≡◌, refl, ◌∙◌}
use mathlib.Core.Bool.{Bool, true, false, cond, ◌&&◌, and_comm}
use mathlib.Core.List.{List, [], ◌∷◌}
use Prim.Native.Nat.{ℕ, zero, suc, ◌-◌, ◌^◌, ◌<◌}
use native.Mathlib.Omega.{arith}
use lib.Dec.{eqb}
use borrow.Author.Tests.{ne_eqb, le-leb}
use Rattle.machine.specs.declared.FlagTimes.{FlagTimes}
use Rattle.machine.specs.Flags.{rose, risen, any_of, any_rises}
use Rattle.machine.specs.Times.{noted, times_after, pair_ok, pairs_ok, times_ok}
use Rattle.machine.proofs.Choices.{and_two, and_both, or_left, or_right, or_neither}

pub never_both : (n : ℕ) → (eqb n 1 && eqb n 0) ≡ false
never_both zero = refl
never_both (suc n) = go (eqb (suc n) 1)
  where
    go : (b : Bool) → (b && eqb (suc n) 0) ≡ false
    go true = ne_eqb (suc n) 0 (λ e. omega arith)
    go false = refl

pub none_rises : (xs : List ℕ) → any_rises xs xs ≡ false
unfolding any_rises risen
none_rises [] = refl
none_rises (x ∷ xs) =
    or_neither (rose x x) (any_rises xs xs) (and_comm (eqb x 0) (eqb x 1) ∙ never_both x) (none_rises xs)

-- where none rises
none_noted : (new : ℕ) (rs : List Bool) (old : List ℕ) → any_of rs ≡ false → noted new rs old ≡ old
unfolding noted
none_noted new [] old e = refl
none_noted new (r ∷ rs) [] e = refl
none_noted new (r ∷ rs) (x ∷ old) e =
    let here = or_left r (any_of rs) e in
    let there = none_noted new rs old (or_right r (any_of rs) e) in
    λ i. cond (here i) new x ∷ there i

pub times_stay : (number : ℕ) (rs : List Bool) (t : FlagTimes) → any_of rs ≡ false → times_after number rs t ≡ t
unfolding times_after
times_stay number rs t e = λ i. record { ever = none_noted 1 rs t.ever e i; number = none_noted number rs t.number e i }

-- the range: a pair that says ever takes any number of 64 bits
ever_ok : (number : ℕ) → number < 2 ^ 64 → pair_ok 1 number ≡ true
ever_ok number h = rw (le-leb number (2 ^ 64 - 1) (omega arith))

pairs_kept : (new : ℕ) → new < 2 ^ 64 → (rs : List Bool) (ever number : List ℕ) → pairs_ok ever number ≡ true
    → pairs_ok (noted 1 rs ever) (noted new rs number) ≡ true
unfolding noted pairs_ok
pairs_kept new h [] ever number e = e
pairs_kept new h (r ∷ rs) [] [] e = refl
pairs_kept new h (r ∷ rs) [] (n ∷ number) e = e
pairs_kept new h (r ∷ rs) (m ∷ ever) [] e = e
pairs_kept new h (r ∷ rs) (m ∷ ever) (n ∷ number) e =
    let s = and_two (pair_ok m n) (pairs_ok ever number) e in
    and_both _ _ (here r s.0) (pairs_kept new h rs ever number s.1)
  where
    here : (b : Bool) → pair_ok m n ≡ true → pair_ok (cond b 1 m) (cond b new n) ≡ true
    here true p = ever_ok new h
    here false p = p

pub times_kept : (number : ℕ) (rs : List Bool) (t : FlagTimes) → number < 2 ^ 64 → times_ok t ≡ true → times_ok (times_after number rs t) ≡ true
unfolding times_after
times_kept number rs t h e = pairs_kept number h rs t.ever t.number e
