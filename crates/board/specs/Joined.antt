-- How the code joins what both chips answer; no rule of the board.
use Rattle.std.specs.Prelude.{ℕ, cond, eqb, ltb}

-- of two refusals the lower number; where one chip passes the other's
unfoldable pub lower : ℕ → ℕ → ℕ
lower x y = cond (eqb x 0) y (cond (eqb y 0) x (cond (ltb x y) x y))
