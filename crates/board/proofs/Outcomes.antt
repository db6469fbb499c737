-- Every answer of the plain board is that of an outcome.
use mathlib.Core.Path.{◌≡◌, refl}
use Prim.Native.Nat.{ℕ}
use lib.Dec.{leb}
use Rattle.std.specs.Prelude.{Result, Ok, Err}
use Rattle.machine.specs.declared.refusals.Refusal.{Refusal}
use Rattle.machine.specs.declared.refusals.Refusal.TheVariants.{BadRecord, BadPins, TooLong}
use Rattle.machine.specs.Calls.{longest}
use Rattle.machine.proofs.Choices.{chosen}
use Rattle.board.specs.declared.Board.{Board}
use Rattle.board.specs.declared.BoardCycled.{BoardCycled}
use Rattle.board.specs.declared.BoardJumped.{BoardJumped}
use Rattle.board.specs.Answers.{BoardCycleAnswer, BoardJumpAnswer}
use Rattle.board.specs.Board.{accepted, bytes_ok, cycle_answer, jump_answer}
use Rattle.board.specs.Outcomes.{cycle_answered, jump_answered}

abbrev SaidCycle : BoardCycleAnswer → Type 0
SaidCycle a = (o : Result BoardCycled Refusal) × (cycle_answered o a.board ≡ a)

abbrev SaidJump : BoardJumpAnswer → Type 0
SaidJump a = (o : Result BoardJumped Refusal) × (jump_answered o a.board ≡ a)

module _ (b : Board) (pins gates : ℕ) where
  pub cycle_said : SaidCycle (cycle_answer b pins gates)
  unfolding cycle_answer
  cycle_said =
      chosen SaidCycle (accepted b) _ _
      (chosen SaidCycle (bytes_ok pins gates) _ _ (Ok _, refl) (Err BadPins, refl))
      (Err BadRecord, refl)

  pub board_jump_said : (n : ℕ) → SaidJump (jump_answer b pins gates n)
  unfolding jump_answer
  board_jump_said n =
      chosen SaidJump (accepted b) _ _
      (chosen SaidJump (bytes_ok pins gates) _ _
      (chosen SaidJump (leb n longest) _ _ (Ok _, refl) (Err TooLong, refl))
      (Err BadPins, refl))
      (Err BadRecord, refl)
