-- Document 02, request Nine: how many rounds a jump takes. A round is one busy cycle, or one longest run of other cycles.
use Rattle.std.specs.Prelude.{ℕ, zero, suc, ◌+◌, ◌*◌, ◌≤◌, Bool, true, false, ◌&&◌, ◌||◌, not, List, [], ◌∷◌, ◌++◌, eqb}
use Rattle.machine.specs.declared.Overflows.{Overflows}
use Rattle.machine.specs.declared.Device.{Device}
use Rattle.machine.specs.Same.{same}
use Rattle.machine.specs.Power.{powered_down}
use Rattle.machine.specs.Record.{pins_of}
use Rattle.machine.specs.Flags.{flags}
use Rattle.machine.specs.Cycle.{counted, overflows_of, cycle_of}

-- Busy cycles

-- a timer overflowed: Timer 0, TH0 in mode 3, Timer 1 or Timer 2
abbrev pub overflowed : Overflows → Bool
overflowed o =
    (not (eqb o.timer0 0) || not (eqb o.th0 0)) || (not (eqb o.timer1 0) || not (eqb o.timer2 0))

-- a timer overflows in the next cycle
unfoldable pub overflows : ℕ → Device → Bool
overflows pins d = overflowed (overflows_of (counted d (pins_of d.kind pins)))

-- a serial position is nonzero
unfoldable pub working : Device → Bool
working d = not (eqb d.serial.send.position 0) || not (eqb d.serial.receive.position 0)

-- the flags, the saved levels, the due marks, seen and polled
unfoldable pub watched : Device → List ℕ
watched d =
    flags d
    ++ (d.timers.due0
    ∷ d.timers.due1
    ∷ d.timer2.due2
    ∷ d.interrupts.seen
    ∷ d.interrupts.polled
    ∷ d.levels)

-- the next cycle is busy, unless in power-down: a timer overflows, a serial position is nonzero before or after it, or one of these
-- changes
unfoldable pub busy : ℕ → Device → Bool
busy pins d =
    not (powered_down d.pcon)
    && ((overflows pins d || working d) || (working (cycle_of pins d) || not (same (watched d) (watched (cycle_of pins d)))))

-- Rounds

-- which of n cycles with one pin byte are busy, in their order
unfoldable pub marks : ℕ → ℕ → Device → List Bool
marks zero pins d = []
marks (suc n) pins d = busy pins d ∷ marks n pins (cycle_of pins d)

-- how many of them are
unfoldable pub busy_cycles : List Bool → ℕ
busy_cycles [] = 0
busy_cycles (true ∷ ms) = 1 + busy_cycles ms
busy_cycles (false ∷ ms) = busy_cycles ms

-- how many longest runs of others there are: each is counted at its end, with the last cycle or before a busy one
unfoldable pub quiet_runs : List Bool → ℕ
quiet_runs [] = 0
quiet_runs (true ∷ ms) = quiet_runs ms
quiet_runs (false ∷ []) = 1
quiet_runs (false ∷ true ∷ ms) = 1 + quiet_runs ms
quiet_runs (false ∷ false ∷ ms) = quiet_runs (false ∷ ms)

-- one round for each busy cycle, one for each longest run of other cycles
abbrev pub rounds_of : List Bool → ℕ
rounds_of ms = busy_cycles ms + quiet_runs ms

-- those of n cycles with one pin byte
unfoldable pub rounds : ℕ → ℕ → Device → ℕ
rounds n pins d = rounds_of (marks n pins d)

-- at most 2 × busy cycles + 1. No rule asks for it; proofs/Rounds.antt proves it
abbrev pub Most : ℕ → ℕ → Device → Type 0
Most n pins d = rounds n pins d ≤ 2 * busy_cycles (marks n pins d) + 1
