-- Document 01, "One cycle", steps 6 and 8 (seen), and "Interrupts": external interrupts, offer, take, return. Document 02, request
-- One: nothing is offered in power-down.
use Rattle.std.specs.Prelude.{ℕ, ◌+◌, ◌*◌, Bool, true, false, cond, ◌&&◌, ◌||◌, List, [], ◌∷◌, eqb, get_or}
use Rattle.machine.specs.declared.Interrupts.{Interrupts}
use Rattle.machine.specs.Bits.{bit, set_bit, clear_bit}
use Rattle.machine.specs.Registers.{TF0, TF1, IE0, IE1, IT0, IT1, RI, TI, TF2, EXF2, EA}
use Rattle.machine.specs.Power.{powered_down}

-- Step 6: with ITi = 1 a fall sets IEi; with ITi = 0, IEi = 1 - L
unfoldable pub external : ℕ → ℕ → ℕ → ℕ → ℕ → ℕ
external it ie fell level tcon =
    cond (eqb (bit it tcon) 1)
    (cond (eqb fell 1) (set_bit ie tcon) tcon)
    (cond (eqb level 0) (set_bit ie tcon) (clear_bit ie tcon))

-- Step 8: seen (document 01's term for the flags as a cycle leaves them) takes IE0, TF0, IE1, TF1, RI or TI, TF2 or EXF2, from bit 0

-- 1 where either is
unfoldable pub either : ℕ → ℕ → ℕ
either a b = cond (eqb a 1 || eqb b 1) 1 0

unfoldable pub seen_of : ℕ → ℕ → ℕ → ℕ
seen_of tcon scon t2con =
    bit IE0 tcon + bit TF0 tcon * 2 + bit IE1 tcon * 4 + bit TF1 tcon * 8 + either (bit RI scon) (bit TI scon) * 16
    + either (bit TF2 t2con) (bit EXF2 t2con) * 32

-- Offer, take, return. A source is its bit in polled, 0 to 5. Document 01's offer is the interrupt that the controller would
-- serve now, its take the vectoring to it, its return the RETI

-- a source, or none
pub data Source : Type 0 where
  none : Source
  source : ℕ → Source

-- it is a source
abbrev pub some_source : Source → Bool
some_source none = false
some_source (source i) = true

abbrev pub sources : List ℕ
sources = 0 ∷ 1 ∷ 2 ∷ 3 ∷ 4 ∷ 5 ∷ []

-- the first that passes a test
unfoldable pub first_of : (ℕ → Bool) → List ℕ → Source
first_of test [] = none
first_of test (i ∷ is) = cond (test i) (source i) (first_of test is)

-- a polled source whose IE bit and EA are 1
abbrev pub asks : Interrupts → ℕ → Bool
asks i k = eqb (bit k i.polled) 1 && (eqb (bit k i.ie) 1 && eqb (bit EA i.ie) 1)

-- one that is IP-marked
abbrev pub asks_marked : Interrupts → ℕ → Bool
asks_marked i k = asks i k && eqb (bit k i.ip) 1

abbrev pub or_else : Source → Source → Source
or_else none b = b
or_else (source i) b = source i

-- an offer is the first such source, IP-marked ones before others; none while high is in service, only marked ones while low is
unfoldable pub choice : Interrupts → Source
choice i =
    cond (eqb i.high 1) none
    (or_else (first_of (asks_marked i) sources) (cond (eqb i.low 1) none (first_of (asks i) sources)))

-- and in power-down nothing is offered
unfoldable pub offered : ℕ → Interrupts → Source
offered pcon i = cond (powered_down pcon) none (choice i)

-- an interrupt is offered
abbrev pub offers : ℕ → Interrupts → Bool
offers pcon i = some_source (offered pcon i)

-- the vectors by polled bit
abbrev pub vector_of : ℕ → ℕ
vector_of k = get_or (0x03 ∷ 0x0b ∷ 0x13 ∷ 0x1b ∷ 0x23 ∷ 0x2b ∷ []) k 0

-- a take sets its level in service and clears its bit in seen and polled
unfoldable pub in_service : ℕ → Interrupts → Interrupts
in_service k i =
    let marked = eqb (bit k i.ip) 1 in
    record {
      ie = i.ie;
      ip = i.ip;
      seen = clear_bit k i.seen;
      polled = clear_bit k i.polled;
      low = cond marked i.low 1;
      high = cond marked 1 i.high;
    }

-- and clears a timer source's TFi, or an external source's IEi if its ITi = 1
unfoldable pub taken : ℕ → ℕ → ℕ
taken k tcon =
    cond (eqb k 0) (cond (eqb (bit IT0 tcon) 1) (clear_bit IE0 tcon) tcon)
    (cond (eqb k 1) (clear_bit TF0 tcon)
    (cond (eqb k 2) (cond (eqb (bit IT1 tcon) 1) (clear_bit IE1 tcon) tcon)
    (cond (eqb k 3) (clear_bit TF1 tcon) tcon)))

-- nothing in service
abbrev pub none_in_service : Interrupts → Bool
none_in_service i = eqb i.high 0 && eqb i.low 0

-- a return clears high, or else low
unfoldable pub returned : Interrupts → Interrupts
returned i =
    record {
      ie = i.ie;
      ip = i.ip;
      seen = i.seen;
      polled = i.polled;
      low = cond (eqb i.high 1) i.low 0;
      high = 0;
    }
