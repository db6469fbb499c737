-- Document 02, request Six, in its words: after any list of calls each pair says whether its flag ever went from 0 to 1 in a cycle since
-- reset, and the cycle number after the last cycle in which it did. The machine keeps pairs and no cycles; here the cycles of a list are
-- written down one by one, and the pairs are looked up in them. No rule asks for it; proofs/LastRise.antt proves it.
use Rattle.std.specs.Prelude.{ℕ, zero, suc, ◌<◌, ◌≡◌, Bool, cond, List, [], ◌∷◌, eqb, get_or}
use Rattle.machine.specs.declared.Device.{Device}
use Rattle.machine.specs.Flags.{flags, rose}
use Rattle.machine.specs.Cycle.{cycle_of, cycles}
use Rattle.machine.specs.Calls.{entry_pins, entry_cycles}
use Rattle.machine.specs.Lists.{Call, play, machine}
use Rattle.machine.specs.Lists.Start.{from_reset}

-- a cycle: the device before it and after it
pub record Made : Type 0 where
  pub before : Device
  pub after : Device

-- The cycles that are made, the last first, before those made earlier: n with one pin byte, and those of each entry of a trace in turn

unfoldable pub made_held : ℕ → ℕ → Device → List Made → List Made
made_held zero pins d ms = ms
made_held (suc n) pins d ms = made_held n pins (cycle_of pins d) (record { before = d; after = cycle_of pins d } ∷ ms)

unfoldable pub made_trace : List ℕ → Device → List Made → List Made
made_trace [] d ms = ms
made_trace (e ∷ es) d ms =
    made_trace es (cycles (entry_cycles e) (entry_pins e) d) (made_held (entry_cycles e) (entry_pins e) d ms)

-- where a call passes
abbrev pub if_passed : Call → Device → List Made → List Made → List Made
if_passed c d new old = cond (eqb (play c d).reply.code 0) new old

-- those since reset, after a call: a cycle, a jump and a trace run that pass make cycles, reset begins anew, and nothing else makes any
unfoldable pub made_by : Call → Device → List Made → List Made
made_by (Call.reset kind) d ms = []
made_by (Call.read a) d ms = ms
made_by (Call.write a v) d ms = ms
made_by (Call.cycle pins) d ms = if_passed (Call.cycle pins) d (made_held 1 pins d ms) ms
made_by (Call.jump pins n) d ms = if_passed (Call.jump pins n) d (made_held n pins d ms) ms
made_by (Call.trace es) d ms = if_passed (Call.trace es) d (made_trace es d ms) ms
made_by (Call.look pins n) d ms = ms
made_by Call.offer d ms = ms
made_by Call.take d ms = ms
made_by Call.return d ms = ms
made_by (Call.wake pins n) d ms = ms

-- and after a list of calls, each of the device that the one before left
unfoldable pub made : List Call → Device → List Made → List Made
made [] d ms = ms
made (c ∷ cs) d ms = made cs (play c d).device (made_by c d ms)

-- The pairs, looked up in them

-- the flag at a place, in the order TF0, TF1, IE0, IE1, RI, TI, TF2, EXF2, goes from 0 to 1
abbrev pub rises_in : ℕ → Made → Bool
rises_in place m = rose (get_or (flags m.before) place 0) (get_or (flags m.after) place 0)

-- 1 where it does in one of them, otherwise 0
abbrev pub ever_in : ℕ → List Made → ℕ
ever_in place [] = 0
ever_in place (m ∷ ms) = cond (rises_in place m) 1 (ever_in place ms)

-- the cycle number after the last in which it does, or 0
abbrev pub number_in : ℕ → List Made → ℕ
number_in place [] = 0
number_in place (m ∷ ms) = cond (rises_in place m) m.after.cycle (number_in place ms)

-- after every list of calls from reset
pub record LastRises : Type 0 where
  pub ever : (kind : ℕ) (cs : List Call) (place : ℕ) → place < 8
      → get_or (machine (from_reset kind) cs).device.times.ever place 0 ≡ ever_in place (made cs (machine (from_reset kind) []).device [])
  pub number : (kind : ℕ) (cs : List Call) (place : ℕ) → place < 8
      → get_or (machine (from_reset kind) cs).device.times.number place 0 ≡ number_in place (made cs (machine (from_reset kind) []).device [])
