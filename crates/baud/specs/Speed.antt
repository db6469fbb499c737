-- Document 02, request Four: from a wanted speed to a reload. A rate is a fraction of whole numbers, and fractions are compared crosswise.
use Rattle.std.specs.Prelude.{ℕ, zero, suc, ◌+◌, ◌-◌, ◌*◌, ◌/◌, ◌%◌, ◌^◌, Bool, true, cond, ◌&&◌, not, leb}
use Rattle.machine.specs.Calls.{unless}
use Rattle.baud.specs.declared.Pair.{Pair}
use Rattle.baud.specs.declared.Fraction.{Fraction}
use Rattle.baud.specs.Answers.{SpeedAnswer, Refused, Found, Nothing}

-- the limits: crystal in hertz, rate in bits a second, tolerance in hundredths of a percent
unfoldable pub allowed : ℕ → ℕ → ℕ → Bool
allowed crystal rate tolerance =
    (leb 1 crystal && leb crystal 40000000) && ((leb 1 rate && leb rate 1000000) && leb tolerance 10000)

-- the rate of a pair: 2^SMOD × crystal / (384 × (256 − TH1))
unfoldable pub rate_of : ℕ → Pair → Fraction
rate_of crystal p = record { numerator = 2 ^ p.smod * crystal; denominator = 384 * (256 - p.th1) }

-- a fraction is at most another
unfoldable pub at_most : Fraction → Fraction → Bool
at_most f g = leb (f.numerator * g.denominator) (g.numerator * f.denominator)

-- how far two whole numbers lie apart
abbrev pub apart : ℕ → ℕ → ℕ
apart a b = (a - b) + (b - a)

-- how far the rate a/b of a pair lies from the wanted one: |a/b − rate| is |a − rate × b| / b
unfoldable pub away : ℕ → ℕ → Pair → Fraction
away crystal rate p =
    record {
      numerator = apart (rate_of crystal p).numerator (rate * (rate_of crystal p).denominator);
      denominator = (rate_of crystal p).denominator;
    }

-- within the tolerance: at most tolerance / 10,000 of the wanted rate away from it
unfoldable pub within : ℕ → ℕ → ℕ → Pair → Bool
within crystal rate tolerance p = at_most (away crystal rate p) (record { numerator = rate * tolerance; denominator = 10000 })

-- a pair is at least as near to the wanted rate as another
unfoldable pub as_near : ℕ → ℕ → Pair → Pair → Bool
as_near crystal rate p q = at_most (away crystal rate p) (away crystal rate q)

-- a pair is nearer than another, which then is not as near
unfoldable pub nearer : ℕ → ℕ → Pair → Pair → Bool
nearer crystal rate p q = not (as_near crystal rate q p)

-- how many pairs there are
abbrev pub PAIRS : ℕ
PAIRS = 512

-- the pairs in the order by which equal nearness is settled: SMOD 0 before SMOD 1, then the larger TH1
unfoldable pub pair_at : ℕ → Pair
pair_at n = record { smod = n / 256; th1 = 255 - n % 256 }

-- a test holds at every place below n
unfoldable pub every : (ℕ → Bool) → ℕ → Bool
every test zero = true
every test (suc n) = test n && every test n

-- within the tolerance, and at least as near as every pair
unfoldable pub fits : ℕ → ℕ → ℕ → Pair → Bool
fits crystal rate tolerance p =
    within crystal rate tolerance p && every (λ n. as_near crystal rate p (pair_at n)) PAIRS

-- the achieved rate in whole bits a second: the fraction cut downward
unfoldable pub cut_down : Fraction → ℕ
cut_down f = f.numerator / f.denominator

-- a pair that is found, with its achieved rate
abbrev pub found : ℕ → Pair → SpeedAnswer
found crystal p = Found p.smod p.th1 (cut_down (rate_of crystal p))

-- the first of n places, from place k on, whose pair fits; or none
unfoldable pub first_from : ℕ → ℕ → ℕ → ℕ → ℕ → SpeedAnswer
first_from crystal rate tolerance zero k = Nothing
first_from crystal rate tolerance (suc n) k =
    cond (fits crystal rate tolerance (pair_at k)) (found crystal (pair_at k)) (first_from crystal rate tolerance n (suc k))

-- the first of all
unfoldable pub search : ℕ → ℕ → ℕ → SpeedAnswer
search crystal rate tolerance = first_from crystal rate tolerance PAIRS 0

-- 14 outside the limits, before any search
unfoldable pub speed : ℕ → ℕ → ℕ → SpeedAnswer
speed crystal rate tolerance = unless (allowed crystal rate tolerance) (Refused 14) (search crystal rate tolerance)
