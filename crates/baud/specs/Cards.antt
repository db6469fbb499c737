-- Cards of the speed finder: crystal, rate and tolerance, and the answer, worked out by the definition. One table with one proof.
use Rattle.std.specs.Prelude.{ℕ, ◌≡◌, refl, cond, List, [], ◌∷◌}
use Rattle.machine.specs.Same.{same}
use Rattle.baud.specs.Answers.{SpeedAnswer, Refused, Found, Nothing}
use Rattle.baud.specs.Speed.{allowed, rate_of, at_most, away, within, as_near, pair_at, every, fits, cut_down, first_from, search, speed}

record Row : Type 0 where
  card : ℕ
  crystal : ℕ
  rate : ℕ
  tolerance : ℕ
  answer : SpeedAnswer

abbrev row : ℕ → ℕ → ℕ → ℕ → SpeedAnswer → Row
row card crystal rate tolerance answer =
    record { card = card; crystal = crystal; rate = rate; tolerance = tolerance; answer = answer }

cards : List Row
cards =
    -- 11.0592 MHz gives 9,600 exactly, by SMOD 0 with TH1 FD and by SMOD 1 with TH1 FA
    row 1 11059200 9600 0 (Found 0 0xfd 9600)
    ∷ row 1 11059200 9600 50 (Found 0 0xfd 9600)
    -- 12 MHz does not: the nearest is 8,928.57, 6.994 percent too slow
    ∷ row 2 12000000 9600 50 Nothing
    ∷ row 2 12000000 9600 699 Nothing
    ∷ row 2 12000000 9600 700 (Found 1 0xf9 8928)
    -- a tie of SMOD 1 with TH1 FD, 8, and SMOD 0 with TH1 FE, 6: SMOD 0
    ∷ row 3 4608 7 1429 (Found 0 0xfe 6)
    -- a tie of TH1 80, 258, and TH1 7F, 256: the larger
    ∷ row 4 12681216 257 39 (Found 0 0x80 258)
    -- exactly half a percent away, above and below: the tolerance has its ends, and is of the wanted rate
    ∷ row 5 3859200 10000 50 (Found 0 0xff 10050)
    ∷ row 5 3859200 10000 49 Nothing
    ∷ row 5 3820800 10000 50 (Found 0 0xff 9950)
    ∷ row 5 3820800 10000 49 Nothing
    -- 60 is nearer to 69 than 80 is, although 80 misses it by less of itself
    ∷ row 6 46080 69 10000 (Found 0 0xfe 60)
    -- 4,807.69 is cut downward
    ∷ row 7 12000000 4800 20 (Found 1 0xf3 4807)
    -- the limits
    ∷ row 8 0 9600 50 (Refused 14)
    ∷ row 8 1 1 0 Nothing
    ∷ row 8 1 1 10000 (Found 1 0xff 0)
    ∷ row 8 40000000 1000000 10000 (Found 1 0xff 208333)
    ∷ row 8 40000001 9600 50 (Refused 14)
    ∷ row 8 11059200 0 50 (Refused 14)
    ∷ row 8 11059200 1000001 50 (Refused 14)
    ∷ row 8 11059200 9600 10000 (Found 0 0xfd 9600)
    ∷ row 8 11059200 9600 10001 (Refused 14)
    -- the slowest rate of SMOD 0, and the slowest of SMOD 1 that SMOD 0 has not got
    ∷ row 9 98304 1 0 (Found 0 0x00 1)
    ∷ row 9 48960 1 0 (Found 1 0x01 1)
    ∷ []

-- an answer as numbers, of each kind another count of them
abbrev numbers_of : SpeedAnswer → List ℕ
numbers_of (Refused k) = k ∷ []
numbers_of (Found smod th1 n) = smod ∷ th1 ∷ n ∷ []
numbers_of Nothing = []

-- the cards of the rows that fail
failing : List Row → List ℕ
failing [] = []
failing (r ∷ rs) =
    cond (same (numbers_of (speed r.crystal r.rate r.tolerance)) (numbers_of r.answer))
    (failing rs)
    (r.card ∷ failing rs)

-- no row fails
cards_hold : failing cards ≡ []
unfolding cards failing same allowed rate_of at_most away within as_near pair_at every fits cut_down first_from search speed
cards_hold = refl
