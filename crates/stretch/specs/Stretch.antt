-- Counting one timer over a stretch, document 02, request Seven: m counts of a counter of w bits, one after the other.
use Rattle.std.specs.Prelude.{ℕ, ◌+◌, ◌<◌, ◌≤◌, ◌^◌, ◌≡◌}
use Rattle.laws.specs.Counting.{counts, overflows, counts_or, overflows_or, lap_from, count_after, overflows_after}
use Rattle.stretch.specs.declared.Lapped.{Lapped}

-- the count after m single counts from n, each overflow giving the reload value, and the overflows among them
abbrev pub lapped : ℕ → ℕ → ℕ → ℕ → Lapped
lapped m w reload n = record { count = counts_or m w reload n; overflows = overflows_or m w reload n }

-- a counter as the code takes it: at most 16 bits, the count and the reload value within them
pub record Counter (w reload n : ℕ) : Type 0 where
  pub width : w ≤ 16
  pub again : reload < 2 ^ w
  pub count : n < 2 ^ w

-- a lap, which is never empty
pub record Lap (w n r : ℕ) : Type 0 where
  pub is : r ≡ lap_from w n
  pub some : 0 < r
  pub most : r ≤ 65536

-- One law for every width and both kinds of reload; proofs/Stretch.antt proves it
pub record Stretches : Type 0 where
  -- a counter that no overflow reloads is one that takes 0
  pub unloaded : (m w n : ℕ) → n < 2 ^ w → lapped m w 0 n ≡ record { count = counts m w n; overflows = overflows m w n }
  -- in closed form, the short first lap included
  pub closed : (m w reload n : ℕ) → reload < 2 ^ w → n < 2 ^ w
      → lapped m w reload n ≡ record { count = count_after m w reload n; overflows = overflows_after m w reload n }
  -- a stretch is its parts: the second goes on from the count that the first leaves, and the overflows add up
  pub parts : (k m w reload n : ℕ)
      → lapped (k + m) w reload n
      ≡ record {
        count = (lapped m w reload (lapped k w reload n).count).count;
        overflows = (lapped k w reload n).overflows + (lapped m w reload (lapped k w reload n).count).overflows;
      }
