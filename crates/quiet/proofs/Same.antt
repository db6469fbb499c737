-- `==` on arrays of numbers compares as the machine's `same` does.
use Rattle.std.proofs.Common.{◌≡◌, ℕ, Bool, ◌&&◌, List, [], ◌∷◌, eqb, refl, ap}
use Rattle.std.specs.Cmp.Lexicographic.{pointwise}
use Rattle.machine.specs.Same.{same}

pub same_is : (r s : List ℕ) → pointwise eqb r s ≡ same r s
unfolding same
same_is [] [] = refl
same_is [] (b ∷ s) = refl
same_is (a ∷ r) [] = refl
same_is (a ∷ r) (b ∷ s) = ap (λ (t : Bool). eqb a b && t) (same_is r s)
