-- A row of any width written into a list, one after the other, from a place on.
use Rattle.std.specs.Prelude.{ℕ, ◌+◌, List, [], ◌∷◌, set}

unfoldable pub put : List ℕ → ℕ → List ℕ → List ℕ
put [] at xs = xs
put (w ∷ row) at xs = put row (at + 1) (set xs at w)
