-- What power-down means on the board: it stops the chip and not the 82C53. Proved in proofs/PowerDown.antt.
use Rattle.std.specs.Prelude.{ℕ, ◌≡◌, true}
use Rattle.machine.specs.Power.{powered_down}
use Rattle.interval.specs.Interval.{pulses_all}
use Rattle.board.specs.declared.Board.{Board}
use Rattle.board.specs.Board.{cycles}

-- n cycles of a board whose chip is in power-down leave the chip as it is, and are n pulses of the 82C53
abbrev pub GoesOn : Board → Type 0
GoesOn b =
    powered_down b.device.pcon ≡ true → (n pins gates : ℕ)
    → cycles n pins gates b ≡ record { device = b.device; interval = pulses_all n gates b.interval }
