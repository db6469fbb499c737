-- A row of any width written into a list: what lies before it and past it stays, and two rows side by side are one.
use Prim.Native.Nat.{ℕ, suc, ◌+◌, ◌≤◌}
use mathlib.Core.Path.{◌≡◌, refl, sym, ap, ◌∙◌}
use mathlib.Core.List.{List, [], ◌∷◌, ◌++◌, append_assoc, append-nil}
use native.Mathlib.Nat.{add-zero}
use native.Mathlib.Numerals.{add-one}
use native.Mathlib.Omega.{arith}
use lib.ListN.{length, take, drop, set, length-set}
use lib.Seq.{take-suc-set, drop-set-lt, take-length}
use Rattle.laws.specs.Rows.{put}

pub put_length : (row : List ℕ) (at : ℕ) (xs : List ℕ) → length (put row at xs) ≡ length xs
unfolding put
put_length [] at xs = refl
put_length (w ∷ row) at xs = put_length row (at + 1) (set xs at w) ∙ length-set xs at w

-- up to the end of the row: what stood before it, and the row
pub put_take : (row : List ℕ) (at : ℕ) (xs : List ℕ) → at + length row ≤ length xs
    → take (at + length row) (put row at xs) ≡ take at xs ++ row
unfolding put
put_take [] at xs h = ap (λ (k : ℕ). take k xs) (add-zero at) ∙ sym (append-nil (take at xs))
put_take (w ∷ row) at xs h =
    let e : at + suc (length row) ≡ at + 1 + length row = omega arith in
    ap (λ (k : ℕ). take k (put row (at + 1) (set xs at w))) e
    ∙ (put_take row (at + 1) (set xs at w) (omega (arith, length-set xs at w))
    ∙ (ap (λ (ys : List ℕ). ys ++ row) (ap (λ (k : ℕ). take k (set xs at w)) (add-one at) ∙ take-suc-set xs at w (omega arith))
    ∙ append_assoc (take at xs) (w ∷ []) row))

-- past it: as it was
pub put_drop : (row : List ℕ) (at k : ℕ) (xs : List ℕ) → at + length row ≤ k → drop k (put row at xs) ≡ drop k xs
unfolding put
put_drop [] at k xs h = refl
put_drop (w ∷ row) at k xs h = put_drop row (at + 1) k (set xs at w) (omega arith) ∙ drop-set-lt k xs at w (omega arith)

-- a row in two parts
pub put_append : (row more : List ℕ) (at : ℕ) (xs : List ℕ) → put (row ++ more) at xs ≡ put more (at + length row) (put row at xs)
unfolding put
put_append [] more at xs = ap (λ (k : ℕ). put more k xs) (sym (add-zero at))
put_append (w ∷ row) more at xs =
    put_append row more (at + 1) (set xs at w)
    ∙ ap (λ (k : ℕ). put more k (put row (at + 1) (set xs at w))) (omega arith)

-- a row as long as the list takes its place
pub put_all : (row xs : List ℕ) → length row ≡ length xs → put row 0 xs ≡ row
put_all row xs e =
    let ys = put row 0 xs in
    let long : 0 + length row ≡ length ys = omega (arith, put_length row 0 xs) in
    sym (take-length ys)
    ∙ (ap (λ (k : ℕ). take k ys) (sym long)
    ∙ put_take row 0 xs (omega arith))
