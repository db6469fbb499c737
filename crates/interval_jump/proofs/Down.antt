-- Counting down for any largest count: one count down is a sum modulo the number of counts, and so are n of them. When the output turns.
use mathlib.Core.Path.{◌≡◌, refl, sym, ap, ◌∙◌}
use mathlib.Core.Bool.{cond, ◌&&◌, not}
use Prim.Native.Nat.{ℕ, zero, suc, ◌+◌, ◌-◌, ◌*◌, ◌%◌, ◌≤◌}
use native.Mathlib.Nat.{mod-eq_of_lt, mod-add-mod, add-mod_right, suc-mul, mul-suc, add-mod-mod, mod-lt}
use Rattle.std.proofs.Math.Nat.{add-mul-mod_self_right}
use Rattle.std.proofs.lemmas.Nat.{mul-mod_first}
use native.Mathlib.Numerals.{add-one}
use native.Mathlib.Omega.{arith}
use lib.Dec.{eqb, ltb}
use borrow.Author.Tests.{eq-eqb, ne_eqb, lt-ltb, le-ltb, ltb-true, ltb-false, eqb-true, eqb-false}
use Rattle.machine.proofs.Choices.{cond_same, by_test}
use Rattle.interval.specs.Count.{one_below}
use Rattle.interval.proofs.Counts.{below_zero, below_suc}
use Rattle.interval_jump.specs.Jump.{down_by}

-- one count down is top counts up
below_mod : (top n : ℕ) → n ≤ top → one_below top n ≡ (n + top) % (top + 1)
below_mod top zero h =
    below_zero top ∙ sym (ap (λ (k : ℕ). k % (top + 1)) zeros ∙ mod-eq_of_lt {n = top} {m = top + 1} (omega arith))
  where
    zeros : zero + top ≡ top
    zeros = omega arith
below_mod top (suc n) h =
    below_suc top n
    ∙ sym (ap (λ (k : ℕ). k % (top + 1)) round ∙ add-mod_right n (top + 1) ∙ mod-eq_of_lt {n = n} {m = top + 1} (omega arith))
  where
    round : suc n + top ≡ n + (top + 1)
    round = omega arith

-- n counts down

pub down_none : (top c : ℕ) → c ≤ top → down_by top 0 c ≡ c
unfolding down_by
down_none top c h = ap (λ (k : ℕ). k % (top + 1)) none ∙ mod-eq_of_lt {n = c} {m = top + 1} (omega arith)
  where
    none : c + 0 * top ≡ c
    none = omega arith

pub down_more : (top n c : ℕ) → c ≤ top → down_by top n (one_below top c) ≡ down_by top (suc n) c
unfolding down_by
down_more top n c h =
    ap (λ (k : ℕ). (k + n * top) % (top + 1)) (below_mod top c h) ∙ mod-add-mod (c + top) (top + 1) (n * top)
    ∙ ap (λ (k : ℕ). k % (top + 1)) (sums (n * top) (suc n * top) (suc-mul n top))
  where
    sums : (a b : ℕ) → b ≡ a + top → c + top + a ≡ c + b
    sums a b e = omega arith

-- whole laps change nothing
pub down_rest : (top n c : ℕ) → (c + n % (top + 1) * top) % (top + 1) ≡ (c + n * top) % (top + 1)
down_rest top n c =
    let m = top + 1 in
    sym (add-mod-mod c (n % m * top) m) ∙ ap (λ (k : ℕ). (c + k) % m) (mul-mod_first n top m) ∙ add-mod-mod c (n * top) m

-- and so what is left over is taken off
left_over : (top r c : ℕ) → r ≤ c → (c - r) % (top + 1) ≡ (c + r * top) % (top + 1)
left_over top r c h =
    sym (add-mul-mod_self_right (c - r) r (top + 1)) ∙ ap (λ (m : ℕ). m % (top + 1)) (sums (r * (top + 1)) (r * top) (ap (λ (m : ℕ). r * m) (add-one top) ∙ mul-suc r top))
  where
    sums : (a b : ℕ) → a ≡ b + r → c - r + a ≡ c + b
    sums a b e = omega arith

pub down_within : (top n c : ℕ) → n % (top + 1) ≤ c → (c - n % (top + 1)) % (top + 1) ≡ down_by top n c
unfolding down_by
down_within top n c h = left_over top (n % (top + 1)) c h ∙ down_rest top n c

-- after a lap more, where the count is not as great
pub down_over : (top n c : ℕ) → (c + (top + 1) - n % (top + 1)) % (top + 1) ≡ down_by top n c
unfolding down_by
down_over top n c =
    left_over top (n % (top + 1)) (c + (top + 1)) (omega (arith, mod-lt n {m = top + 1} (omega arith)))
    ∙ (ap (λ (k : ℕ). k % (top + 1)) (swapped (n % (top + 1) * top)) ∙ (add-mod_right (c + n % (top + 1) * top) (top + 1) ∙ down_rest top n c))
  where
    swapped : (a : ℕ) → c + (top + 1) + a ≡ c + a + (top + 1)
    swapped a = omega arith

-- The output's turns

-- mode 0: 0 is reached within n counts, or after one more
pub rises : (top d n o : ℕ) → cond (ltb (one_below top d) n) 1 (cond (eqb d 0) 1 o) ≡ cond (ltb d (suc n)) 1 o
rises top zero n o = cond_same (ltb (one_below top zero) n) 1 ∙ sym (simp (lt-ltb zero (suc n) (omega arith)))
rises top (suc d) n o =
    simp (below_suc top d, ne_eqb (suc d) 0 (λ e. omega arith))
    (by_test (ltb d n)
    (λ t. let l = ltb-true d n t in simp (t, lt-ltb (suc d) (suc n) (omega arith)))
    (λ t. let l = ltb-false d n t in simp (t, le-ltb (suc d) (suc n) (omega arith))))

-- mode 2: 1 is reached by the last of n counts, or of one more
pub falls : (top d n o : ℕ) → (d ≡ 0 → ⊥) → n ≤ one_below top d
    → cond (not (eqb n 0) && eqb n (one_below top d)) 0 (cond (eqb d 1) 0 o) ≡ cond (not (eqb (suc n) 0) && eqb (suc n) d) 0 o
falls top zero n o z h = absurd (z refl)
falls top (suc d) n o z h =
    let l : n ≤ d = omega (arith, below_suc top d) in
    simp (below_suc top d, ne_eqb (suc n) 0 (λ e. omega arith))
    (by_test (eqb n d)
    (λ t.
    let e = eqb-true n d t in
    simp (t, eq-eqb (suc n) (suc d) (omega arith))
    (by_test (eqb n 0)
    (λ y. let q = eqb-true n 0 y in simp (y, eq-eqb (suc d) 1 (omega arith)))
    (λ y. simp y)))
    (λ t.
    let e = eqb-false n d t in
    simp (t, ne_eqb (suc n) (suc d) (λ q. e (omega arith)), ne_eqb (suc d) 1 (λ q. e (omega arith)))
    (by_test (eqb n 0) (λ y. simp y) (λ y. simp y))))
