-- Request Ten: a device advanced by its share, by jump, ends as that many single cycles would, in one slice and slice after slice.
-- No promise is written out here: `Learnt` is what the check reads off a function's contract, and what a caller of it learns.
use Rattle.std.specs.Prelude.{ℕ, zero, suc, ◌<◌, ◌≡◌, true, List, [], ◌∷◌, length, get_or, Result}
use base.Fml.{Lft}
use Rattle.std.specs.Borrow.{Bor, MutBor}
use Rattle.machine.specs.declared.Device.{Device}
use Rattle.machine.specs.declared.Jumped.{Jumped}
use Rattle.machine.specs.declared.refusals.Refusal.{Refusal}
use Rattle.machine.specs.Outcomes.{code_of}
use Rattle.machine.specs.Record.{accepted, pins_ok}
use Rattle.machine.specs.Cycle.{cycles}
use Rattle.machine.specs.Lists.{Call, Reply}
use Rattle.slices.specs.Shares.{total}
use Rattle.lists.specs.Spelling.{Each}
use Rattle.lists.specs.Demand3.{Chained}
use Rattle.lists.specs.Cuts.{Passed}
use Rattle.shares.proofs.shares.Reads as shares-reads
use Rattle.c51_run.proofs.jump.Reads as jump-reads

-- n is the share of tunnel i in a slice, as a call of `shares` that passed promises it
pub data Share : ℕ → Type 0 where
  share : (κ ι : Lft) (b : ℕ) (wishes : Bor (List ℕ)) (before shares : MutBor (List ℕ)) (r : Result (Unit {0}) Refusal) (i : ℕ)
      → shares-reads.Learnt (κ, (ι, tt)) (b, (wishes, (before, tt))) r (b, (wishes, (shares, tt))) → code_of r ≡ 0
      → i < length wishes.now → Share (get_or shares.now i 0)

-- a device and a pin byte with which no cycle is refused
pub record Ready (pins : ℕ) (d : Device) : Type 0 where
  pub record_ok : accepted d ≡ true
  pub pins_accepted : pins_ok pins ≡ true

-- n single cycles, as calls
unfoldable pub singly : ℕ → ℕ → List Call
singly zero pins = []
singly (suc n) pins = Call.cycle pins ∷ singly n pins

-- a jump for each number of cycles
unfoldable pub jumps : List ℕ → ℕ → List Call
jumps [] pins = []
jumps (n ∷ ns) pins = Call.jump pins n ∷ jumps ns pins

-- calls that all passed, and end as n single cycles of the plain machine
pub record Ends (n pins : ℕ) (d : Device) (rs : List Reply) (last : Device) : Type 0 where
  pub passed : Each Passed rs
  pub end : last ≡ cycles n pins d

pub record Advances : Type 0 where
  -- a jump by a share passes, and leaves what so many single cycles leave: those of the plain machine
  pub by_share : (κ : Lft) (n pins : ℕ) (d e : MutBor Device) (r : Result Jumped Refusal) → Share n → Ready pins d.now
      → jump-reads.Learnt (κ, tt) (d, (pins, (n, tt))) r (e, (pins, (n, tt)))
      → (code_of r ≡ 0) × (e.now ≡ cycles n pins d.now)
  -- and those that are called one by one
  pub by_cycles : (n pins : ℕ) {d last : Device} {rs : List Reply} → Ready pins d → Chained (singly n pins) d rs last
      → Ends n pins d rs last
  -- slice after slice: jumps by shares end as the single cycles of all of them
  pub by_slices : (ns : List ℕ) (pins : ℕ) {d last : Device} {rs : List Reply} → Each Share ns → Ready pins d
      → Chained (jumps ns pins) d rs last → Ends (total ns) pins d rs last
