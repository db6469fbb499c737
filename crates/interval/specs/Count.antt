-- Document 02, request Three, "binary and four-decade BCD": a count is a number, from 0 to 65,535, in BCD from 0 to 9,999. A written 0
-- stands for 65,536, or 10,000 in BCD, since below 0 stands the largest count.
use Rattle.std.specs.Prelude.{ℕ, ◌+◌, ◌-◌, ◌*◌, ◌/◌, ◌%◌, Bool, cond, ◌&&◌, eqb, leb}
use Rattle.machine.specs.Bits.{field}

-- the largest count: 16 bits, or four decades
unfoldable pub most : ℕ → ℕ
most bcd = cond (eqb bcd 1) 9999 65535

-- one count down; below 0 stands the largest count
unfoldable pub one_below : ℕ → ℕ → ℕ
one_below top n = cond (eqb n 0) top (n - 1)

-- Decades: the two bytes of a BCD count have a digit in each four bits

-- no digit is above nine
unfoldable pub digits_ok : ℕ → Bool
digits_ok v = (leb (field 12 4 v) 9 && leb (field 8 4 v) 9) && (leb (field 4 4 v) 9 && leb (field 0 4 v) 9)

-- the number that four decades show
unfoldable pub decimal : ℕ → ℕ
decimal v = field 12 4 v * 1000 + field 8 4 v * 100 + field 4 4 v * 10 + field 0 4 v

-- the four decades of a number
unfoldable pub decades : ℕ → ℕ
decades n = n / 1000 * 4096 + n / 100 % 10 * 256 + n / 10 % 10 * 16 + n % 10

-- the number of two written bytes, and the two bytes that show a number
unfoldable pub number_of : ℕ → ℕ → ℕ
number_of bcd v = cond (eqb bcd 1) (decimal v) v

unfoldable pub shown_as : ℕ → ℕ → ℕ
shown_as bcd n = cond (eqb bcd 1) (decades n) n
