-- What the code's reading stands for.
use Rattle.std.specs.Prelude.{ℕ, cond, List, eqb, drop, set, Result, Ok, Err}
use Rattle.machine.specs.declared.Part.{Part}
use Rattle.machine.specs.declared.Part.TheVariants.{Mark, Value}
use Rattle.machine.specs.declared.refusals.Refusal.{Refusal}
use Rattle.machine.specs.declared.refusals.Refusal.TheVariants.{BadLayout, BadValue}
use Rattle.machine.specs.Outcomes.{number}
use Rattle.machine.specs.Checkpoint as Checkpoint
use Rattle.machine.specs.Checkpoint.Reading.{reading, faulty}
use Rattle.checkpoint.specs.declared.Reading.{Reading}

-- the values once a part is read, and what is wrong with it: a wrong count or address, or a value that does not hold
unfoldable pub taken_by : Part → ℕ → List ℕ → List ℕ
taken_by (Mark m) n values = values
taken_by (Value place width) n values = set values place n

unfoldable pub fault_of : ℕ → Part → ℕ → List ℕ → Result (Unit {0}) Refusal
fault_of kind (Mark m) n values = cond (eqb n m) (Ok tt) (Err BadLayout)
fault_of kind (Value place width) n values = cond (Checkpoint.holds kind place values) (Ok tt) (Err BadValue)

-- the values so far and the bytes from the next one on; or the first fault by its number
unfoldable pub state_of : List ℕ → Result Reading Refusal → Checkpoint.Reading
state_of file (Ok r) = reading r.values (drop r.at file)
state_of file (Err e) = faulty (number e)
