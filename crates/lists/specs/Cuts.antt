-- Cuts: the same cycles made by other calls. A cycle, a jump and a trace run make cycles and nothing else; the device after them depends
-- on the pin bytes of those cycles alone, however they are cut into calls, and so do the overflow totals of jumps and trace runs, added
-- up.
use Rattle.std.specs.Prelude.{ℕ, zero, suc, ◌≡◌, List, [], ◌∷◌, ◌++◌, get_or}
use Rattle.machine.specs.declared.Totals.{Totals}
use Rattle.machine.specs.declared.Device.{Device}
use Rattle.machine.specs.Cycle.{cycle_of}
use Rattle.machine.specs.Totals.{no_totals, added, totals_next}
use Rattle.machine.specs.Calls.{entry_pins, entry_cycles}
use Rattle.machine.specs.Lists.{Call, Reply}
use Rattle.calls.specs.Row.{numbers_of}
use Rattle.lists.specs.Spelling.{Each}
use Rattle.lists.specs.Demand3.{Chained}

-- a cycle for each pin byte
unfoldable pub over : List ℕ → Device → Device
over [] d = d
over (pins ∷ more) d = over more (cycle_of pins d)

-- the overflows in these cycles
unfoldable pub overflows_over : List ℕ → Device → Totals
overflows_over [] d = no_totals
overflows_over (pins ∷ more) d = added (totals_next pins d) (overflows_over more (cycle_of pins d))

-- a pin byte for n cycles, and for those of each entry of a trace
unfoldable pub held : ℕ → ℕ → List ℕ
held zero pins = []
held (suc n) pins = pins ∷ held n pins

unfoldable pub entries_held : List ℕ → List ℕ
entries_held [] = []
entries_held (e ∷ es) = held (entry_cycles e) (entry_pins e) ++ entries_held es

-- the pin byte of each cycle that a call makes
unfoldable pub pins_of_call : Call → List ℕ
pins_of_call (Call.reset kind) = []
pins_of_call (Call.read a) = []
pins_of_call (Call.write a v) = []
pins_of_call (Call.cycle pins) = pins ∷ []
pins_of_call (Call.jump pins n) = held n pins
pins_of_call (Call.trace es) = entries_held es
pins_of_call (Call.look pins n) = []
pins_of_call Call.offer = []
pins_of_call Call.take = []
pins_of_call Call.return = []
pins_of_call (Call.wake pins n) = []

unfoldable pub pins_of_calls : List Call → List ℕ
pins_of_calls [] = []
pins_of_calls (c ∷ cs) = pins_of_call c ++ pins_of_calls cs

-- the calls that make cycles
pub data Crosses : Call → Type 0 where
  cycle : {pins : ℕ} → Crosses (Call.cycle pins)
  jump : {pins n : ℕ} → Crosses (Call.jump pins n)
  trace : {es : List ℕ} → Crosses (Call.trace es)

-- those that answer totals
pub data Counts : Call → Type 0 where
  jump : {pins n : ℕ} → Counts (Call.jump pins n)
  trace : {es : List ℕ} → Counts (Call.trace es)

-- the totals of a reply, its first three numbers, and those of all replies, added up
unfoldable pub totals_in : Reply → Totals
totals_in r = record { timer0 = get_or (numbers_of r.value) 0 0; timer1 = get_or (numbers_of r.value) 1 0; timer2 = get_or (numbers_of r.value) 2 0 }

unfoldable pub summed : List Reply → Totals
summed [] = no_totals
summed (r ∷ rs) = added (totals_in r) (summed rs)

-- a reply that its call passed
abbrev pub Passed : Reply → Type 0
Passed r = r.code ≡ 0

-- two lists of such calls from one device, all passed, with the same pin byte in each cycle, end in one device; and their totals add up
-- to the same, those of two jumps to those of one
pub record Cuts : Type 0 where
  pub alike : {cs es : List Call} {d last end : Device} {rs ss : List Reply} → Each Crosses cs → Each Crosses es → Each Passed rs
      → Each Passed ss → pins_of_calls cs ≡ pins_of_calls es → Chained cs d rs last → Chained es d ss end → last ≡ end
  pub totals : {cs es : List Call} {d last end : Device} {rs ss : List Reply} → Each Counts cs → Each Counts es → Each Passed rs
      → Each Passed ss → pins_of_calls cs ≡ pins_of_calls es → Chained cs d rs last → Chained es d ss end → summed rs ≡ summed ss
