-- What is over, one wish more; a wish that is judged; and the loop that writes the shares, a turn: what is written so far, with what the
-- definition makes of the rest, is what it makes of all.
use Rattle.std.proofs.Common.{ℕ, ◌+◌, ◌-◌, ◌≤◌, ◌<◌, min, ◌≡◌, ◌∙◌, List, [], ◌∷◌, ◌++◌, append_assoc, append-nil, add-one, true, ◌&&◌, leb, arith, length, get_or, take, drop, set, drop_of_length-le, drop-cons, take-suc-set, take_all}
use Rattle.machine.specs.Calls.{longest}
use Rattle.slices.specs.Shares.{wishes_ok, total, first_parts, lack, goes_round}

-- what is over before the first wish, and after one wish more
parts_more : (part w : ℕ) (ws : List ℕ) → total (first_parts part (ws ++ w ∷ [])) ≡ total (first_parts part ws) + min w part
unfolding total first_parts
parts_more part w [] = omega arith
parts_more part w (x ∷ xs) = omega (arith, parts_more part w xs)

pub over_none : (b part : ℕ) → b ≡ b - total (first_parts part [])
unfolding total first_parts
over_none b part = omega arith

pub over_more : (b part w left more : ℕ) (ws : List ℕ) → left ≡ b - total (first_parts part ws) → more ≡ left - min w part
    → more ≡ b - total (first_parts part (ws ++ w ∷ []))
over_more b part w left more ws e f = omega (arith, parts_more part w ws)

module _ (ws : List ℕ) (i : ℕ) where
  -- a wish is judged, and none is left
  pub wishes_on : i < length ws → wishes_ok (drop i ws) ≡ (leb (get_or ws i 0) longest && wishes_ok (drop (i + 1) ws))
  unfolding wishes_ok
  wishes_on h = rw (add-one, drop-cons ws i 0)

  pub wishes_out : length ws ≤ i → wishes_ok (drop i ws) ≡ true
  unfolding wishes_ok
  wishes_out h = rw (drop_of_length-le ws h)

  -- the share of tunnel i is written, and what is over goes on
  pub round_on : (part left : ℕ) (out : List ℕ) → i < length ws → i < length out
      → take (i + 1) (set out i (min (get_or ws i 0) part + min (lack part (get_or ws i 0)) left))
      ++ goes_round part (left - min (lack part (get_or ws i 0)) left) (drop (i + 1) ws)
      ≡ take i out ++ goes_round part left (drop i ws)
  unfolding goes_round
  round_on part left out h l = rw (add-one, take-suc-set, append_assoc, drop-cons ws i 0)

  pub round_out : (part left : ℕ) (out : List ℕ) → length ws ≤ i → length out ≡ length ws
      → take i out ++ goes_round part left (drop i ws) ≡ out
  unfolding goes_round
  round_out part left out h e = rw (drop_of_length-le ws h) (append-nil (take i out) ∙ take_all i out (omega arith))
