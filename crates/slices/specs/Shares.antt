-- Document 02, request Ten: the shares of a time slice of b cycles among the tunnels that wish for some.
use Rattle.std.specs.Prelude.{ℕ, ◌+◌, ◌-◌, ◌/◌, min, Bool, true, ◌&&◌, List, [], ◌∷◌, eqb, leb, length}
use Rattle.machine.specs.Calls.{longest, unless}

-- up to 64 tunnels
abbrev pub TUNNELS : ℕ
TUNNELS = 64

-- 1 to 64 tunnels, and an output with a place for each
unfoldable pub tunnels_ok : List ℕ → ℕ → Bool
tunnels_ok wishes places = (leb 1 (length wishes) && leb (length wishes) TUNNELS) && eqb places (length wishes)

-- each wish is at most 2^40, as long as a jump can be
unfoldable pub wishes_ok : List ℕ → Bool
wishes_ok [] = true
wishes_ok (w ∷ ws) = leb w longest && wishes_ok ws

-- and so is the slice
unfoldable pub slice_ok : ℕ → List ℕ → Bool
slice_ok b wishes = leb b longest && wishes_ok wishes

-- numbers added up
unfoldable pub total : List ℕ → ℕ
total [] = 0
total (x ∷ xs) = x + total xs

-- the equal part: the slice divided by the number of tunnels, rounded down
abbrev pub equal_part : ℕ → List ℕ → ℕ
equal_part b wishes = b / length wishes

-- what each tunnel gets first: the smaller of its wish and the equal part
unfoldable pub first_parts : ℕ → List ℕ → List ℕ
first_parts part [] = []
first_parts part (w ∷ ws) = min w part ∷ first_parts part ws

-- what is over then
abbrev pub over_of : ℕ → List ℕ → ℕ
over_of b wishes = b - total (first_parts (equal_part b wishes) wishes)

-- what a tunnel then lacks
abbrev pub lack : ℕ → ℕ → ℕ
lack part w = w - min w part

-- what is over goes round from the first tunnel, each filled to its wish as far as it goes
unfoldable pub goes_round : ℕ → ℕ → List ℕ → List ℕ
goes_round part over [] = []
goes_round part over (w ∷ ws) =
    let more = min (lack part w) over in
    (min w part + more) ∷ goes_round part (over - more) ws

-- the share of each tunnel
unfoldable pub shares_of : ℕ → List ℕ → List ℕ
shares_of b wishes = goes_round (equal_part b wishes) (over_of b wishes) wishes

-- 18 for zero or more than 64 tunnels, or an output of another length; then 19 for the slice or a wish above the limit; or 0
unfoldable pub shares_fault : ℕ → List ℕ → ℕ → ℕ
shares_fault b wishes places =
    unless (tunnels_ok wishes places) 18
    (unless (slice_ok b wishes) 19
    0)

-- the answer, and the output after the call: untouched where it is refused
pub record Shared : Type 0 where
  pub code : ℕ
  pub output : List ℕ

unfoldable pub shares_answer : ℕ → List ℕ → List ℕ → Shared
shares_answer b wishes output =
    let fault = shares_fault b wishes (length output) in
    record { code = fault; output = unless (eqb fault 0) output (shares_of b wishes) }
