-- A refused call of the board leaves both chips as they were, and every other number of its answer is 0: by cases of the refusals.
use mathlib.Core.Path.{◌≡◌, refl}
use Prim.Native.Nat.{ℕ}
use lib.Dec.{leb}
use Rattle.machine.specs.Totals.{no_totals}
use Rattle.machine.specs.Calls.{longest}
use Rattle.machine.proofs.Choices.{chosen}
use Rattle.board.specs.declared.Board.{Board}
use Rattle.board.specs.Answers.{BoardCycleAnswer, BoardJumpAnswer}
use Rattle.board.specs.Board.{accepted, bytes_ok, cycle_answer, jump_answer}

module _ (b : Board) (pins gates : ℕ) where
  -- refused, or all is well
  abbrev SameCycle : BoardCycleAnswer → Type 0
  SameCycle a = (a.code ≡ 0 → ⊥) → (a.line ≡ 0) × ((a.outputs ≡ 0) × (a.board ≡ b))

  abbrev SameJump : BoardJumpAnswer → Type 0
  SameJump a = (a.code ≡ 0 → ⊥) → (a.outputs ≡ 0) × ((a.totals ≡ no_totals) × ((a.rounds ≡ 0) × (a.board ≡ b)))

  pub cycle_refused : SameCycle (cycle_answer b pins gates)
  unfolding cycle_answer
  cycle_refused =
      chosen SameCycle (accepted b) _ _
      (chosen SameCycle (bytes_ok pins gates) _ _ (λ n. absurd (n refl)) (λ _. (refl, (refl, refl))))
      (λ _. (refl, (refl, refl)))

  pub jump_refused : (n : ℕ) → SameJump (jump_answer b pins gates n)
  unfolding jump_answer
  jump_refused n =
      chosen SameJump (accepted b) _ _
      (chosen SameJump (bytes_ok pins gates) _ _
      (chosen SameJump (leb n longest) _ _ (λ n. absurd (n refl)) (λ _. (refl, (refl, (refl, refl)))))
      (λ _. (refl, (refl, (refl, refl)))))
      (λ _. (refl, (refl, (refl, refl))))
