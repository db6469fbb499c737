-- What a caller learns from the contract of a call, `Learnt`, gives the plain machine's answer, and with it the reply: document 01's
-- number and values, by the definition that gives them for the call's answer.
use mathlib.Core.List.{List}
use Prim.Native.Nat.{ℕ, ◌+◌, ◌*◌, ◌≤◌}
use native.Mathlib.Omega.{arith}
use lib.Dec.{eqb}
use base.Fml.{Lft}
use denote.Ref.{Bor, MutBor}
use Rattle.std.specs.Prelude.{Option, Result}
use Rattle.machine.specs.declared.Device.{Device}
use Rattle.machine.specs.declared.Totals.{Totals}
use Rattle.machine.specs.declared.Jumped.{Jumped}
use Rattle.machine.specs.declared.refusals.Refusal.{Refusal}
use Rattle.machine.specs.Rounds.{marks, busy_cycles}
use Rattle.machine.specs.Calls.{cycle_answer, cycles_fault, jump_answer, trace_answer, look_answer, wake_answer}
use Rattle.machine.specs.Lists.{Call, play, reply_of_jump, reply_of_run, reply_of_cycle, reply_of_look}
use Rattle.machine.specs.Outcomes.{cycle_answered, jump_answered, run_answered, look_answered}
use Rattle.machine.proofs.Choices.{by_test}
use Rattle.machine.proofs.Rounds.{rounds_most}
use Rattle.laws.proofs.Guards.{told, Says}
use Rattle.c51_run.proofs.cycle.Reads as cycle-reads
use Rattle.c51_run.proofs.jump.Reads as jump-reads
use Rattle.c51_run.proofs.trace.Reads as trace-reads
use Rattle.c51_run.proofs.look.Reads as look-reads
use Rattle.c51_run.proofs.wake.Reads as wake-reads

-- where time passes in a lent device: as it was lent, and as it is after the call
module _ (κ : Lft) (lent after : MutBor Device) where
  pub cycle_promises : (pins : ℕ) (r : Result ℕ Refusal) → cycle-reads.Learnt (κ, tt) (lent, (pins, tt)) r (after, (pins, tt))
      → Says reply_of_cycle (Call.cycle pins) lent.now (cycle_answer lent.now pins) (cycle_answered r after.now)
  unfolding play
  cycle_promises pins r = told reply_of_cycle

  pub jump_promises : (pins n : ℕ) (r : Result Jumped Refusal) → jump-reads.Learnt (κ, tt) (lent, (pins, (n, tt))) r (after, (pins, (n, tt)))
      → Says reply_of_jump (Call.jump pins n) lent.now (jump_answer lent.now pins n) (jump_answered r after.now)
  unfolding play
  jump_promises pins n r = told reply_of_jump

  -- a jump takes at most 2 × busy cycles + 1 rounds; a refused one answers none
  pub jump_most : (pins n : ℕ) (r : Result Jumped Refusal) → jump-reads.Learnt (κ, tt) (lent, (pins, (n, tt))) r (after, (pins, (n, tt)))
      → (jump_answered r after.now).rounds ≤ 2 * busy_cycles (marks n pins lent.now) + 1
  unfolding jump_answer
  jump_most pins n r e =
      let d = lent.now in
      rw e
      (by_test (eqb (cycles_fault d pins n) 0) (λ good. rw good (rounds_most n pins d)) (λ bad. rw bad (omega arith)))

  pub trace_promises : (ι : Lft) (es : Bor (List ℕ)) (r : Result Totals Refusal)
      → trace-reads.Learnt (κ, (ι, tt)) (lent, (es, tt)) r (after, (es, tt))
      → Says reply_of_run (Call.trace es.now) lent.now (trace_answer lent.now es.now) (run_answered r after.now)
  unfolding play
  trace_promises ι es r = told reply_of_run

module _ (d : Device) where
  pub look_promises : (pins n : ℕ) (r : Result (Option ℕ) Refusal) → look-reads.Learnt tt (d, (pins, (n, tt))) r (d, (pins, (n, tt)))
      → Says reply_of_look (Call.look pins n) d (look_answer d pins n) (look_answered r)
  look_promises pins n r e = e

  pub wake_promises : (pins n : ℕ) (r : Result (Option ℕ) Refusal) → wake-reads.Learnt tt (d, (pins, (n, tt))) r (d, (pins, (n, tt)))
      → Says reply_of_look (Call.wake pins n) d (wake_answer d pins n) (look_answered r)
  wake_promises pins n r e = e
