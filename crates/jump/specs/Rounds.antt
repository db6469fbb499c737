-- What a round of a jump passes, and where a jump stands between two of them.
use Rattle.std.specs.Prelude.{ℕ, ◌+◌, ◌<◌, ◌≤◌, ◌≡◌, true, false, ◌⊎◌}
use Rattle.machine.specs.declared.Totals.{Totals}
use Rattle.machine.specs.declared.Device.{Device}
use Rattle.machine.specs.Record.{accepted, pins_of}
use Rattle.machine.specs.Cycle.{cycles}
use Rattle.machine.specs.Totals.{added, totals, Within}
use Rattle.machine.specs.Rounds.{busy, rounds}
use Rattle.machine.specs.Calls.{longest}
use Rattle.strides.specs.Stride.{room, used_of}
use Rattle.cycle.specs.declared.Run.{Run}
use Rattle.jump.specs.declared.Round.{Round}

-- what cycles are made of: a record that is accepted, and a pin byte as its kind takes it
pub record Ready (pins : ℕ) (d : Device) : Type 0 where
  pub good : accepted d ≡ true
  pub taken : pins_of d.kind pins ≡ pins

-- the cycles of a round
unfoldable pub used_in : ℕ → ℕ → Device → ℕ
used_in pins left d = used_of (room pins d) left

-- a round has just these cycles, adds their overflows, and ends where they end
pub record Crossed (pins left : ℕ) (from : Run) (r : Round) : Type 0 where
  pub used : r.used ≡ used_in pins left from.device
  pub laps : r.run.totals ≡ added from.totals (totals r.used pins from.device)
  pub reaches : r.run.device ≡ cycles r.used pins from.device

-- Rounds as request Nine counts them: so many of the cycles that are left are one busy cycle, or a longest run of others

-- one busy cycle
pub record BusyCycle (pins : ℕ) (d : Device) (used : ℕ) : Type 0 where
  pub one : used ≡ 1
  pub busy : busy pins d ≡ true

-- cycles that are not busy, to the end of those that are left or up to a busy one
pub record QuietRun (pins left : ℕ) (d : Device) (used : ℕ) : Type 0 where
  pub some : 1 ≤ used
  pub within : used ≤ left
  pub quiet : (j : ℕ) → j < used → busy pins (cycles j pins d) ≡ false
  pub ends : (used ≡ left) ⊎ (busy pins (cycles used pins d) ≡ true)

-- either
abbrev pub RoundOf : ℕ → ℕ → Device → ℕ → Type 0
RoundOf pins left d used = BusyCycle pins d used ⊎ QuietRun pins left d used

-- the overflows at the end of n cycles more
abbrev pub whole : ℕ → ℕ → Run → Totals
whole pins n start = added start.totals (totals n pins start.device)

-- A jump of n cycles after so many rounds, with so many cycles left: these, from the device reached, end where all of them end, bring the
-- overflows that are still to be added, and take the rounds that are still to be counted
pub record Reached (pins n : ℕ) (start run : Run) (left done : ℕ) : Type 0 where
  pub ready : Ready pins run.device
  pub within : done + left ≤ n
  pub ends : cycles left pins run.device ≡ cycles n pins start.device
  pub sums : added run.totals (totals left pins run.device) ≡ whole pins n start
  pub most : Within (longest + n) (whole pins n start)
  pub counts : done + rounds left pins run.device ≡ rounds n pins start.device
