-- Cards of the shares: a slice, the wishes and the output before a call; its number and the output after it, worked out by hand from the
-- request. One table with one proof.
use Rattle.std.specs.Prelude.{ℕ, ◌+◌, ◌^◌, ◌≡◌, refl, cond, ◌&&◌, List, [], ◌∷◌, eqb, length, replicate}
use Rattle.machine.specs.Same.{same}
use Rattle.slices.specs.Shares.{tunnels_ok, wishes_ok, slice_ok, total, first_parts, goes_round, shares_of, shares_fault, shares_answer}

record Row : Type 0 where
  card : ℕ
  slice : ℕ
  wishes : List ℕ
  before : List ℕ
  code : ℕ
  after : List ℕ

-- a call that passes: each place of the output had a 7
abbrev given : ℕ → ℕ → List ℕ → List ℕ → Row
given card slice wishes shares =
    record { card = card; slice = slice; wishes = wishes; before = replicate (length wishes) 7; code = 0; after = shares }

-- a call that is refused: the output stays
abbrev refused : ℕ → ℕ → List ℕ → List ℕ → ℕ → Row
refused card slice wishes output code =
    record { card = card; slice = slice; wishes = wishes; before = output; code = code; after = output }

-- the limit of the slice and of a wish
abbrev most : ℕ
most = 2 ^ 40

cards : List Row
cards =
    -- 10 cycles for four tunnels: first 2 each, the first only 1 as it wishes; the 3 that are over go to the second
    given 1 10 (1 ∷ 9 ∷ 2 ∷ 9 ∷ []) (1 ∷ 5 ∷ 2 ∷ 2 ∷ [])
    -- each is filled to its wish and no further, and what is over goes on to the next
    ∷ given 2 20 (4 ∷ 9 ∷ 9 ∷ []) (4 ∷ 9 ∷ 7 ∷ [])
    ∷ given 2 100 (1 ∷ 9 ∷ 2 ∷ 9 ∷ []) (1 ∷ 9 ∷ 2 ∷ 9 ∷ [])
    -- 11 by 3 is 3, and 2 are over; 2 by 3 is 0
    ∷ given 3 11 (9 ∷ 9 ∷ 9 ∷ []) (5 ∷ 3 ∷ 3 ∷ [])
    ∷ given 3 2 (9 ∷ 9 ∷ 9 ∷ []) (2 ∷ 0 ∷ 0 ∷ [])
    -- nothing to share, nothing wished for
    ∷ given 4 0 (5 ∷ 0 ∷ []) (0 ∷ 0 ∷ [])
    ∷ given 4 10 (0 ∷ 0 ∷ 3 ∷ []) (0 ∷ 0 ∷ 3 ∷ [])
    -- one tunnel
    ∷ given 5 9 (10 ∷ []) (9 ∷ [])
    ∷ given 5 9 (8 ∷ []) (8 ∷ [])
    -- 64 tunnels; none and 65 are refused
    ∷ given 6 65 (replicate 64 2) (2 ∷ replicate 63 1)
    ∷ refused 6 65 [] [] 18
    ∷ refused 6 65 (replicate 65 2) (replicate 65 7) 18
    -- an output with a place too few or too many
    ∷ refused 7 10 (3 ∷ 4 ∷ []) (7 ∷ []) 18
    ∷ refused 7 10 (3 ∷ 4 ∷ []) (7 ∷ 7 ∷ 7 ∷ []) 18
    -- the limit of the slice, and of a wish
    ∷ given 8 most (5 ∷ most ∷ most ∷ []) (5 ∷ 733007751846 ∷ 366503875925 ∷ [])
    ∷ refused 8 (most + 1) (5 ∷ []) (7 ∷ []) 19
    ∷ refused 8 10 (5 ∷ (most + 1) ∷ []) (7 ∷ 7 ∷ []) 19
    -- 18 goes before 19
    ∷ refused 9 (most + 1) [] [] 18
    ∷ refused 9 10 ((most + 1) ∷ []) [] 18
    ∷ refused 9 (most + 1) (replicate 65 (most + 1)) (replicate 65 7) 18
    ∷ []

-- the cards of the rows that fail
failing : List Row → List ℕ
failing [] = []
failing (r ∷ rs) =
    let a = shares_answer r.slice r.wishes r.before in
    cond (eqb a.code r.code && same a.output r.after) (failing rs) (r.card ∷ failing rs)

-- no row fails
cards_hold : failing cards ≡ []
unfolding cards failing same tunnels_ok wishes_ok slice_ok total first_parts goes_round shares_of shares_fault shares_answer
cards_hold = refl
