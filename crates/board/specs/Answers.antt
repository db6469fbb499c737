-- What the calls of the board answer, as request Three has it: 0 or the refusal's number, what the call gives, zeros where it is refused,
-- and the board.
use Rattle.std.specs.Prelude.{ℕ}
use Rattle.machine.specs.declared.Totals.{Totals}
use Rattle.board.specs.declared.Board.{Board}

-- a cycle: the output line and the outputs of the 82C53
pub record BoardCycleAnswer : Type 0 where
  pub code : ℕ
  pub line : ℕ
  pub outputs : ℕ
  pub board : Board

-- a jump: the outputs of the 82C53, the chip's overflow totals and its rounds
pub record BoardJumpAnswer : Type 0 where
  pub code : ℕ
  pub outputs : ℕ
  pub totals : Totals
  pub rounds : ℕ
  pub board : Board
