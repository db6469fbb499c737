-- What request Ten asks of the shares and of the refusals, in its own words. Proved in proofs/Fair.antt.
use Rattle.std.specs.Prelude.{ℕ, ◌/◌, ◌^◌, ◌≤◌, ◌<◌, min, ◌≡◌, List, length, get_or}
use Rattle.slices.specs.Shares.{Shared, total, shares_of, shares_answer}

-- 1 to 64 tunnels, and an output of so many places
pub record Sized (wishes : List ℕ) (places : ℕ) : Type 0 where
  pub some : 1 ≤ length wishes
  pub few : length wishes ≤ 64
  pub room : places ≡ length wishes

-- the slice and each wish are at most 2^40
pub record Limited (b : ℕ) (wishes : List ℕ) : Type 0 where
  pub slice : b ≤ 2 ^ 40
  pub wish : (i : ℕ) → i < length wishes → get_or wishes i 0 ≤ 2 ^ 40

-- the smaller of a tunnel's wish and b divided by the number of tunnels, rounded down
abbrev pub first_part : ℕ → List ℕ → ℕ → ℕ
first_part b wishes i = min (get_or wishes i 0) (b / length wishes)

-- the shares of a slice of b cycles
pub record Fair (b : ℕ) (wishes shares : List ℕ) : Type 0 where
  -- each tunnel gets one
  pub each : length shares ≡ length wishes
  -- no more than its wish
  pub most : (i : ℕ) → i < length wishes → get_or shares i 0 ≤ get_or wishes i 0
  -- and at least its first part
  pub least : (i : ℕ) → i < length wishes → first_part b wishes i ≤ get_or shares i 0
  -- what is over goes to the first tunnels first: where one is not filled to its wish, no later one has more than its first part
  pub order : (i j : ℕ) → i < j → j < length wishes → get_or shares i 0 < get_or wishes i 0 → get_or shares j 0 ≡ first_part b wishes j
  -- they add up to the smaller of b and all wishes
  pub sum : total shares ≡ min b (total wishes)

-- what an answer says: 0 and fair shares; or 18 or 19 where it is due, 18 first, and the output as it was
pub data Says (b : ℕ) (wishes before : List ℕ) : Shared → Type 0 where
  given : {after : List ℕ} → Sized wishes (length before) → Limited b wishes → Fair b wishes after
      → Says b wishes before (record { code = 0; output = after })
  bad_tunnels : (Sized wishes (length before) → ⊥) → Says b wishes before (record { code = 18; output = before })
  bad_wish : Sized wishes (length before) → (Limited b wishes → ⊥) → Says b wishes before (record { code = 19; output = before })

-- what the answer says is so, and it is the only answer of which that holds: the shares are the only fair ones, and each refusal is
-- given exactly where it is due
pub record Shares : Type 0 where
  pub fair : (b : ℕ) (wishes : List ℕ) → Fair b wishes (shares_of b wishes)
  pub only_fair : (b : ℕ) (wishes shares : List ℕ) → Fair b wishes shares → shares ≡ shares_of b wishes
  pub so : (b : ℕ) (wishes before : List ℕ) → Says b wishes before (shares_answer b wishes before)
  pub only : (b : ℕ) (wishes before : List ℕ) (a : Shared) → Says b wishes before a → a ≡ shares_answer b wishes before
