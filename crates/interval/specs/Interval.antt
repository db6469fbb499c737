-- Document 02, request Three, the 82C53: its record and the ranges of the fields, reset, the three counters, their gates and outputs.
use Rattle.std.specs.Prelude.{ℕ, zero, suc, ◌+◌, ◌*◌, Bool, cond, ◌&&◌, ◌||◌, List, [], ◌∷◌, eqb, leb, ltb}
use Rattle.machine.specs.Bits.{bit}
use Rattle.machine.specs.Record.{Hidden, hidden, hidden_ok}
use Rattle.interval.specs.declared.Counter.{Counter}
use Rattle.interval.specs.declared.Interval.{Interval}
use Rattle.interval.specs.Count.{most}
use Rattle.interval.specs.Counter.{LOW, BOTH, fresh, pulse}

-- mode 0 or 2
abbrev pub mode_ok : ℕ → Bool
mode_ok mode = eqb mode 0 || eqb mode 2

-- low byte, high byte or both
abbrev pub format_ok : ℕ → Bool
format_ok format = leb LOW format && leb format BOTH

-- the other fields, each with the most that it may be
unfoldable pub fields : Counter → List Hidden
fields k =
    hidden k.bcd 1
    ∷ hidden k.output 1
    ∷ hidden k.gate 1
    ∷ hidden k.loaded 1
    ∷ hidden k.waits 1
    ∷ hidden k.first 1
    ∷ hidden k.low 255
    ∷ hidden k.high 1
    ∷ hidden k.latched 1
    ∷ hidden k.count (most k.bcd)
    ∷ hidden k.reload (most k.bcd)
    ∷ hidden k.waiting (most k.bcd)
    ∷ hidden k.latch (most k.bcd)
    ∷ []

-- each field of a counter within its range
unfoldable pub counter_ok : Counter → Bool
counter_ok k = mode_ok k.mode && (format_ok k.format && hidden_ok (fields k))

-- a record that refusal 1 does not meet
unfoldable pub accepted : Interval → Bool
accepted c = counter_ok c.counter0 && (counter_ok c.counter1 && counter_ok c.counter2)

-- reset is a control word for mode 0, binary, both, on each counter
unfoldable pub reset_of : Interval
reset_of = record { counter0 = fresh 0 0 BOTH 0; counter1 = fresh 0 0 BOTH 0; counter2 = fresh 0 0 BOTH 0 }

-- the counter of a choice, 0 to 2
unfoldable pub counter_at : ℕ → Interval → Counter
counter_at i c = cond (eqb i 0) c.counter0 (cond (eqb i 1) c.counter1 c.counter2)

-- that counter changed
unfoldable pub put_at : ℕ → Counter → Interval → Interval
put_at i k c =
    record {
      counter0 = cond (eqb i 0) k c.counter0;
      counter1 = cond (eqb i 1) k c.counter1;
      counter2 = cond (eqb i 2) k c.counter2;
    }

-- the outputs, bits 0 to 2
unfoldable pub outputs : Interval → ℕ
outputs c = bit 0 c.counter0.output + bit 0 c.counter1.output * 2 + bit 0 c.counter2.output * 4

-- a gate byte has a level for each counter, bits 0 to 2, and no other bit
abbrev pub gates_ok : ℕ → Bool
gates_ok gates = ltb gates 8

-- one pulse with a gate byte
unfoldable pub pulse_all : ℕ → Interval → Interval
pulse_all gates c =
    record {
      counter0 = pulse (bit 0 gates) c.counter0;
      counter1 = pulse (bit 1 gates) c.counter1;
      counter2 = pulse (bit 2 gates) c.counter2;
    }

-- n pulses with one gate byte
unfoldable pub pulses_all : ℕ → ℕ → Interval → Interval
pulses_all zero gates c = c
pulses_all (suc n) gates c = pulses_all n gates (pulse_all gates c)
