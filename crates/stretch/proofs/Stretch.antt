-- The laws of a stretch, from those of counting: without a reload and in parts by induction on the counts.
use Prim.Native.Nat.{ℕ, zero, suc, ◌+◌, ◌%◌, ◌^◌, ◌<◌}
use mathlib.Core.Path.{◌≡◌, refl, sym, ap, ◌∙◌}
use native.Mathlib.Nat.{zero-add, suc-add, add_assoc, mod_self}
use native.Mathlib.Omega.{arith}
use lib.Dec.{ltb}
use borrow.Author.Tests.{ltb-true, ltb-false}
use Rattle.machine.specs.Counting.{next, overflow, next_or}
use Rattle.machine.proofs.Choices.{by_test}
use Rattle.machine.proofs.Counting.{next_lt}
use Rattle.laws.specs.Counting.{counts, overflows, counts_or, overflows_or}
use Rattle.laws.proofs.Counting.{next_up, next_or_up, next_or_over, counts_or_after, overflows_or_after}
use Rattle.stretch.specs.declared.Lapped.{Lapped}
use Rattle.stretch.specs.Stretch.{Stretches}

abbrev both : ℕ → ℕ → Lapped
both n o = record { count = n; overflows = o }

-- Without a reload

next_is : (w n : ℕ) → n < 2 ^ w → next_or w 0 n ≡ next w n
next_is w n h =
    by_test (ltb (n + 1) (2 ^ w))
    (λ t. let l = ltb-true (n + 1) (2 ^ w) t in next_or_up w 0 n l ∙ sym (next_up w n l))
    (λ t.
    let g = ltb-false (n + 1) (2 ^ w) t in
    let e : n + 1 ≡ 2 ^ w = omega arith in
    next_or_over w 0 n e ∙ sym (ap (λ (m : ℕ). m % 2 ^ w) e ∙ mod_self (2 ^ w)))

counts_are : (m w n : ℕ) → n < 2 ^ w → counts_or m w 0 n ≡ counts m w n
unfolding counts counts_or
counts_are zero w n h = refl
counts_are (suc m) w n h = ap (counts_or m w 0) (next_is w n h) ∙ counts_are m w (next w n) (next_lt w n)

overflows_are : (m w n : ℕ) → n < 2 ^ w → overflows_or m w 0 n ≡ overflows m w n
unfolding overflows overflows_or
overflows_are zero w n h = refl
overflows_are (suc m) w n h =
    ap (λ (k : ℕ). overflow w n + k)
    (ap (overflows_or m w 0) (next_is w n h) ∙ overflows_are m w (next w n) (next_lt w n))

-- In parts

counts_on : (k m w reload n : ℕ) → counts_or (k + m) w reload n ≡ counts_or m w reload (counts_or k w reload n)
unfolding counts_or
counts_on zero m w reload n = rw zero-add
counts_on (suc k) m w reload n = rw suc-add (counts_on k m w reload (next_or w reload n))

overflows_on : (k m w reload n : ℕ)
    → overflows_or (k + m) w reload n ≡ overflows_or k w reload n + overflows_or m w reload (counts_or k w reload n)
unfolding counts_or overflows_or
overflows_on zero m w reload n = simp zero-add
overflows_on (suc k) m w reload n =
    rw suc-add (ap (λ (o : ℕ). overflow w n + o) (overflows_on k m w reload (next_or w reload n)) ∙ sym (add_assoc (overflow w n) _ _))

pub stretches : Stretches
stretches =
    record {
      unloaded = λ m w n h i. both (counts_are m w n h i) (overflows_are m w n h i);
      closed = λ m w reload n r h i. both (counts_or_after m w reload n r h i) (overflows_or_after m w reload n r h i);
      parts = λ k m w reload n i. both (counts_on k m w reload n i) (overflows_on k m w reload n i);
    }
