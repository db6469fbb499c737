-- What a caller learns from the contract of a call of the board, `Learnt`, gives the plain board's answer, and with it the reply.
use mathlib.Core.Path.{◌≡◌}
use Prim.Native.Nat.{ℕ}
use Rattle.board.specs.declared.Board.{Board}
use base.Fml.{Lft}
use Rattle.std.specs.Prelude.{Result}
use Rattle.std.specs.Borrow.{MutBor}
use Rattle.machine.specs.declared.refusals.Refusal.{Refusal}
use Rattle.board.specs.declared.BoardCycled.{BoardCycled}
use Rattle.board.specs.declared.BoardJumped.{BoardJumped}
use Rattle.board.specs.Outcomes.{cycle_answered, jump_answered}
use Rattle.board.specs.Board.{cycle_answer, jump_answer}
use Rattle.board.specs.Lists.{Call, play, reply_of_cycle, reply_of_jump}
use Rattle.laws.proofs.Guards.{told}
use Rattle.board.proofs.cycle.Reads as cycle-reads
use Rattle.board.proofs.jump.Reads as jump-reads

module _ (κ : Lft) (b c : MutBor Board) (pins gates : ℕ) where
  pub cycle_promises : (r : Result BoardCycled Refusal) → cycle-reads.Learnt (κ, tt) (b, (pins, (gates, tt))) r (c, (pins, (gates, tt)))
      → (cycle_answered r c.now ≡ cycle_answer b.now pins gates)
      × (reply_of_cycle (cycle_answered r c.now) ≡ (play (Call.cycle pins gates) b.now).reply)
  unfolding play
  cycle_promises r = told reply_of_cycle

  pub jump_promises : (n : ℕ) (r : Result BoardJumped Refusal)
      → jump-reads.Learnt (κ, tt) (b, (pins, (gates, (n, tt)))) r (c, (pins, (gates, (n, tt))))
      → (jump_answered r c.now ≡ jump_answer b.now pins gates n)
      × (reply_of_jump (jump_answered r c.now) ≡ (play (Call.jump pins gates n) b.now).reply)
  unfolding play
  jump_promises n r = told reply_of_jump
