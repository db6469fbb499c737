-- Document 02, request Three, the board that has both chips: the 82C53 is clocked once a machine cycle. A jump ends as pulse by pulse does;
-- request Seven: it answers the chip's overflow totals; request Nine: and its rounds, pulses making no cycle busy. Refused by 1 for
-- either record, then by 4 for the pin byte or the gate byte, then by 5; a refusal leaves both chips as given. Power-down stops the chip,
-- whose cycle then leaves it as it is, and not the 82C53.
use Rattle.std.specs.Prelude.{ℕ, zero, suc, Bool, ◌&&◌, List, [], ◌∷◌, leb}
use Rattle.machine.specs.Record.{pins_ok}
use Rattle.machine.specs.Record as Device
use Rattle.machine.specs.Serial.{line_of}
use Rattle.machine.specs.Cycle.{cycle_of}
use Rattle.machine.specs.Totals.{no_totals, added, totals_next}
use Rattle.machine.specs.Rounds.{busy, rounds_of}
use Rattle.machine.specs.Calls.{unless, longest}
use Rattle.machine.specs.declared.Totals.{Totals}
use Rattle.interval.specs.Interval.{outputs, gates_ok, pulse_all}
use Rattle.interval.specs.Interval as Interval
use Rattle.board.specs.declared.Board.{Board}
use Rattle.board.specs.Answers.{BoardCycleAnswer, BoardJumpAnswer}

-- a record that refusal 1 does not meet
unfoldable pub accepted : Board → Bool
accepted b = Device.accepted b.device && Interval.accepted b.interval

-- a pin byte and a gate byte that refusal 4 does not meet
abbrev pub bytes_ok : ℕ → ℕ → Bool
bytes_ok pins gates = pins_ok pins && gates_ok gates

-- a cycle of the board: one cycle of the chip and one pulse of the 82C53
unfoldable pub cycle : ℕ → ℕ → Board → Board
cycle pins gates b = record { device = cycle_of pins b.device; interval = pulse_all gates b.interval }

-- n of them
unfoldable pub cycles : ℕ → ℕ → ℕ → Board → Board
cycles zero pins gates b = b
cycles (suc n) pins gates b = cycles n pins gates (cycle pins gates b)

-- the overflows of the chip's timers in them
unfoldable pub totals : ℕ → ℕ → ℕ → Board → Totals
totals zero pins gates b = no_totals
totals (suc n) pins gates b = added (totals_next pins b.device) (totals n pins gates (cycle pins gates b))

-- which of them are busy for the chip, and the rounds
unfoldable pub marks : ℕ → ℕ → ℕ → Board → List Bool
marks zero pins gates b = []
marks (suc n) pins gates b = busy pins b.device ∷ marks n pins gates (cycle pins gates b)

unfoldable pub rounds : ℕ → ℕ → ℕ → Board → ℕ
rounds n pins gates b = rounds_of (marks n pins gates b)

-- Cycle: it answers the line and the outputs as it leaves them
abbrev pub refuse_cycle : ℕ → Board → BoardCycleAnswer
refuse_cycle n b = record { code = n; line = 0; outputs = 0; board = b }

abbrev pub passed_cycle : Board → BoardCycleAnswer
passed_cycle b = record { code = 0; line = line_of b.device.serial; outputs = outputs b.interval; board = b }

unfoldable pub cycle_answer : Board → ℕ → ℕ → BoardCycleAnswer
cycle_answer b pins gates =
    unless (accepted b) (refuse_cycle 1 b)
    (unless (bytes_ok pins gates) (refuse_cycle 4 b)
    (passed_cycle (cycle pins gates b)))

-- Jump: n cycles of the board; it answers the overflow totals, the rounds and the outputs
abbrev pub refuse_jump : ℕ → Board → BoardJumpAnswer
refuse_jump n b = record { code = n; outputs = 0; totals = no_totals; rounds = 0; board = b }

abbrev pub passed_jump : Totals → ℕ → Board → BoardJumpAnswer
passed_jump t rounds b = record { code = 0; outputs = outputs b.interval; totals = t; rounds = rounds; board = b }

unfoldable pub jump_answer : Board → ℕ → ℕ → ℕ → BoardJumpAnswer
jump_answer b pins gates n =
    unless (accepted b) (refuse_jump 1 b)
    (unless (bytes_ok pins gates) (refuse_jump 4 b)
    (unless (leb n longest) (refuse_jump 5 b)
    (passed_jump (totals n pins gates b) (rounds n pins gates b) (cycles n pins gates b))))
