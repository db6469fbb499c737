-- m counts in turn of a counter of w bits: its value and its overflows, by recursion on the counts, and at once.
-- Without a reload and at once they are for requests Seven and Twelve, which count over a stretch.
use Rattle.std.specs.Prelude.{ℕ, zero, suc, ◌+◌, ◌-◌, ◌/◌, ◌%◌, ◌^◌, cond, ltb}
use Rattle.machine.specs.Counting.{next, overflow, next_or}

-- the count m counts after n
unfoldable pub counts : ℕ → ℕ → ℕ → ℕ
counts zero w n = n
counts (suc m) w n = counts m w (next w n)

-- the overflows in these m counts
unfoldable pub overflows : ℕ → ℕ → ℕ → ℕ
overflows zero w n = 0
overflows (suc m) w n = overflow w n + overflows m w (next w n)

-- the count m counts after n, where each overflow gives the reload value
unfoldable pub counts_or : ℕ → ℕ → ℕ → ℕ → ℕ
counts_or zero w reload n = n
counts_or (suc m) w reload n = counts_or m w reload (next_or w reload n)

-- the overflows in these m counts
unfoldable pub overflows_or : ℕ → ℕ → ℕ → ℕ → ℕ
overflows_or zero w reload n = 0
overflows_or (suc m) w reload n = overflow w n + overflows_or m w reload (next_or w reload n)

-- a lap: the counts from n to the overflow that follows. The first one starts at the count, each other at the reload
-- value
abbrev pub lap_from : ℕ → ℕ → ℕ
lap_from w n = 2 ^ w - n

-- at once, m counts after n: in the first lap the count goes up; after it the counts left over go round in laps from
-- the reload value
unfoldable pub count_after : ℕ → ℕ → ℕ → ℕ → ℕ
count_after m w reload n = cond (ltb m (lap_from w n)) (n + m) (reload + (m - lap_from w n) % lap_from w reload)

-- and the overflows: one at the end of the first lap, and one at the end of each lap after it
unfoldable pub overflows_after : ℕ → ℕ → ℕ → ℕ → ℕ
overflows_after m w reload n = cond (ltb m (lap_from w n)) 0 (1 + (m - lap_from w n) / lap_from w reload)
