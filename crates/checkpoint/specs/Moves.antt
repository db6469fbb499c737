-- Document 02, request Eight: what a move to another computer keeps. Reading a written checkpoint gives that device, and every accepted
-- file is the one that the writer makes.
use Rattle.std.specs.Prelude.{ℕ, ◌≡◌, true, List, ◌⊎◌, length}
use Rattle.machine.specs.declared.Device.{Device}
use Rattle.machine.specs.Record.{accepted, zeros}
use Rattle.machine.specs.Calls.{passed}
use Rattle.machine.specs.Checkpoint.{file_of, load_answer}
use Rattle.layout.specs.Bytes.{Bytes}

-- the arrays of a record have their lengths, as those of every record of the code do
pub record Sized (d : Device) : Type 0 where
  pub levels : length d.levels ≡ 7
  pub ever : length d.times.ever ≡ 8
  pub number : length d.times.number ≡ 8

pub record Moves : Type 0 where
  -- 297 bytes of kind 51 and 307 of kind 52
  pub long51 : (d : Device) → d.kind ≡ 51 → length (file_of d) ≡ 297
  pub long52 : (d : Device) → d.kind ≡ 52 → length (file_of d) ≡ 307
  -- reading what was written gives that device
  pub back : (d : Device) → Sized d → accepted d ≡ true → load_answer (file_of d) ≡ passed d
  -- an accepted file is the one that the writer makes of the device read: so no two files stand for one device
  pub only : (file : List ℕ) → Bytes file → (load_answer file).code ≡ 0 → file ≡ file_of (load_answer file).device
  -- its device is accepted by every call
  pub welcome : (file : List ℕ) → (load_answer file).code ≡ 0 → accepted (load_answer file).device ≡ true
  -- a refused file is so by 15, 16 or 17, and gives the kind 0 record
  pub refused : (file : List ℕ) → ((load_answer file).code ≡ 0 → ⊥)
      → (((load_answer file).code ≡ 15) ⊎ (((load_answer file).code ≡ 16) ⊎ ((load_answer file).code ≡ 17))) × ((load_answer file).device ≡ zeros)
