-- Values that have room in their fields: what the code finds of each, and that cutting them then changes nothing.
use Prim.Native.Nat.{ℕ, zero, suc, ◌+◌, ◌-◌, ◌%◌, ◌^◌, ◌<◌, ◌≤◌}
use mathlib.Core.Path.{◌≡◌, refl, sym, ap, subst, ◌∙◌}
use mathlib.Core.Bool.{Bool, true, false, ◌&&◌, true≢false}
use mathlib.Core.List.{List, [], ◌∷◌}
use native.Mathlib.Nat.{mod-eq_of_lt, zero-add}
use native.Mathlib.Omega.{arith}
use lib.Dec.{leb, ltb}
use lib.ListN.{length, get_or, get_or-eq_default}
use borrow.Author.Tests.{leb-true, le-leb}
use Rattle.std.specs.List.{list_all, enumerate_from}
use Rattle.machine.specs.Record.{accepted}
use Rattle.machine.specs.Checkpoint.{device_with, device_of, places, place_of_received}
use Rattle.machine.proofs.Choices.{cond_has, by_test, and_two}
use Rattle.values.specs.Values.{most_at, narrow_from, narrow, cut}
use Rattle.values.proofs.Fields.{fits}

-- the code's test of each value with its place
abbrev pub has_room : ℕ × ℕ → Bool
has_room (place, x) = leb x (most_at place)

pub narrow_listed : (place : ℕ) (values : List ℕ) → list_all has_room (enumerate_from place values) ≡ narrow_from place values
unfolding narrow_from
narrow_listed place [] = refl
narrow_listed place (x ∷ values) = ap (λ (b : Bool). leb x (most_at place) && b) (narrow_listed (place + 1) values)

-- each of them
narrow_at : (values : List ℕ) (from : ℕ) → narrow_from from values ≡ true → (p : ℕ) → p < length values → get_or values p 0 ≤ most_at (from + p)
unfolding narrow_from
narrow_at [] from e p h = absurd (omega arith)
narrow_at (x ∷ values) from e zero h =
    let s = and_two (leb x (most_at from)) (narrow_from (from + 1) values) e in
    subst (λ (k : ℕ). x ≤ most_at k) (omega arith) (leb-true _ _ s.0)
narrow_at (x ∷ values) from e (suc p) h =
    let s = and_two (leb x (most_at from)) (narrow_from (from + 1) values) e in
    subst (λ (k : ℕ). get_or values p 0 ≤ most_at k) (omega arith) (narrow_at values (from + 1) s.1 p (omega arith))

narrow_all : (values : List ℕ) (from : ℕ) → ((p : ℕ) → p < length values → get_or values p 0 ≤ most_at (from + p)) → narrow_from from values ≡ true
unfolding narrow_from
narrow_all [] from f = refl
narrow_all (x ∷ values) from f =
    let here : x ≤ most_at from = subst (λ (k : ℕ). x ≤ most_at k) (omega arith) (f 0 (omega arith)) in
    rw (le-leb x (most_at from) here)
    (narrow_all values (from + 1) (λ p h. subst (λ (k : ℕ). get_or values p 0 ≤ most_at k) (omega arith) (f (suc p) (omega arith))))

module _ (values : List ℕ) (long : length values ≡ places) where
  pub cut_same : narrow values ≡ true → (p : ℕ) → cut values p ≡ get_or values p 0
  unfolding cut
  cut_same e p =
      let x = get_or values p 0 in
      by_test (ltb p places)
      (λ t. let h = borrow.Author.Tests.ltb-true p places t in
      let m : x ≤ most_at p = subst (λ (k : ℕ). x ≤ most_at k) (zero-add p) (narrow_at values 0 e p (omega (arith, long))) in
      cond_has (λ (y : ℕ). y ≡ x) (ltb (most_at p) 65536) (x % (most_at p + 1)) x (λ _. mod-eq_of_lt (omega arith)) (λ _. refl))
      (λ t. let h = borrow.Author.Tests.ltb-false p places t in
      let z : x ≡ 0 = get_or-eq_default values 0 (omega (arith, long)) in
      cond_has (λ (y : ℕ). y ≡ x) (ltb (most_at p) 65536) (x % (most_at p + 1)) x (λ _. mod-eq_of_lt (omega arith)) (λ _. refl))

  -- with room, the device that is made is that of the values
  pub made_same : narrow values ≡ true → (kind : ℕ) → device_with kind (cut values) ≡ device_of kind values
  made_same e kind = ap (device_with kind) (λ i p. cut_same e p i)

  -- those of an accepted device have room
  pub narrow_of : (kind : ℕ) → accepted (device_of kind values) ≡ true → get_or values place_of_received 0 ≤ 2 ^ 64 - 1 → narrow values ≡ true
  narrow_of kind ok w =
      narrow_all values 0 (λ p h. subst (λ (k : ℕ). get_or values p 0 ≤ most_at k) (sym (zero-add p)) (fits kind (λ q. get_or values q 0) ok w p (omega (arith, long))))

  -- without room, number 1 would refuse them
  pub refused_wide : get_or values place_of_received 0 ≤ 2 ^ 64 - 1 → narrow values ≡ false → (kind : ℕ) → accepted (device_of kind values) ≡ false
  refused_wide w e kind =
      by_test (accepted (device_of kind values)) (λ ok. absurd (true≢false (sym (narrow_of kind ok w) ∙ e))) (λ no. no)
