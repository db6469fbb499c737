-- In power-down the chip's cycles leave it as it is, so that the board's are pulses of the 82C53.
use mathlib.Core.Path.{ap, ◌∙◌}
use Rattle.machine.specs.declared.Device.{Device}
use Rattle.laws.proofs.Sleep.{cycles_stay}
use Rattle.interval.specs.Interval.{pulses_all}
use Rattle.board.specs.declared.Board.{Board}
use Rattle.board.specs.PowerDown.{GoesOn}
use Rattle.board.proofs.Joined.{cycles_each}

pub goes_on : (b : Board) → GoesOn b
goes_on b down n pins gates =
    cycles_each n pins gates b
    ∙ ap (λ (d : Device). record { device = d; interval = pulses_all n gates b.interval }) (cycles_stay b.device down n pins)
