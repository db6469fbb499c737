-- Laps that are too long to count out: cards of the 82C53, stated of single pulses and proved by their closed form in proofs/Laps.antt.
use Rattle.std.specs.Prelude.{ℕ, suc, ◌+◌, ◌^◌, ◌≤◌, ◌≡◌}
use Rattle.interval.specs.declared.Counter.{Counter}
use Rattle.interval.specs.Counter.{BOTH, fresh, complete, pulses}

-- a counter for which a count is written after its control word, the gate high; and its output after n pulses
abbrev pub written : ℕ → ℕ → ℕ → Counter
written mode bcd n = complete n (fresh mode bcd BOTH 1)

abbrev pub output_after : ℕ → Counter → ℕ
output_after n k = (pulses n 1 k).output

-- a count of n in mode 0: the output is low up to pulse n, of which the first loads, and high after one more
pub record Lap0 (n : ℕ) (k : Counter) : Type 0 where
  pub low : (m : ℕ) → m ≤ n → output_after m k ≡ 0
  pub high : output_after (suc n) k ≡ 1

-- a count of n + 1 in mode 2: the output is high up to pulse n, low after one more, the last of the lap, and high after the next
pub record Lap2 (n : ℕ) (k : Counter) : Type 0 where
  pub high : (m : ℕ) → m ≤ n → output_after m k ≡ 1
  pub low : output_after (suc n) k ≡ 0
  pub again : output_after (suc (suc n)) k ≡ 1

-- 2^40 pulses of mode 2 by 1,000, the first of which loads: 1,099,511,627 whole laps, and 775 counts of the next
pub record Longest (k : Counter) : Type 0 where
  pub count : (pulses (2 ^ 40) 1 k).count ≡ 225
  pub high : output_after (2 ^ 40 + 223) k ≡ 1
  pub low : output_after (2 ^ 40 + 224) k ≡ 0
  pub again : output_after (2 ^ 40 + 225) k ≡ 1

pub record Laps : Type 0 where
  -- count 0 is 65,536, and 10,000 in BCD
  pub binary0 : Lap0 65536 (written 0 0 0)
  pub binary2 : Lap2 65535 (written 2 0 0)
  pub bcd0 : Lap0 10000 (written 0 1 0)
  pub bcd2 : Lap2 9999 (written 2 1 0)
  pub longest : Longest (written 2 0 1000)
