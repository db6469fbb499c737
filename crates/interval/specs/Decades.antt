-- What counting in BCD comes to, digit by digit: a statement about the definitions, which are of numbers; proved in proofs/Decades.antt.
use Rattle.std.specs.Prelude.{ℕ, ◌+◌, ◌-◌, ◌≤◌, ◌≡◌, true, cond, eqb}
use Rattle.machine.specs.Bits.{field}
use Rattle.interval.specs.Count.{most, one_below, digits_ok, decimal, decades}

-- one count down of four decades: the ones go down by one; a digit that is 0 becomes 9 and borrows from the next; 0000 becomes 9999
abbrev pub borrowed : ℕ → ℕ
borrowed v =
    cond (eqb (field 0 4 v) 0)
    (cond (eqb (field 4 4 v) 0)
    (cond (eqb (field 8 4 v) 0)
    (cond (eqb (field 12 4 v) 0) 0x9999 (v - 0x1000 + 0x0999))
    (v - 0x0100 + 0x0099))
    (v - 0x0010 + 0x0009))
    (v - 0x0001)

pub record DecadesCount : Type 0 where
  -- the decades of a number show the number, and four decades with no digit above nine are those of the number that they show
  pub shows : (n : ℕ) → n ≤ most 1 → decimal (decades n) ≡ n
  pub shown : (v : ℕ) → v ≤ 65535 → digits_ok v ≡ true → decades (decimal v) ≡ v
  -- no count has a digit above nine, and each is at most 9,999
  pub digits : (n : ℕ) → n ≤ most 1 → digits_ok (decades n) ≡ true
  pub within : (v : ℕ) → v ≤ 65535 → digits_ok v ≡ true → decimal v ≤ most 1
  -- a count down is a borrow over the decades
  pub borrows : (n : ℕ) → n ≤ most 1 → decades (one_below (most 1) n) ≡ borrowed (decades n)
