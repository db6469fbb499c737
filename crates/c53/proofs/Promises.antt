-- What a caller learns from the contract of a call of the 82C53, `Learnt`, gives the plain 82C53's answer, written down from what the call
-- gives and the chip that it leaves, and with it the reply.
use mathlib.Core.Path.{◌≡◌}
use Prim.Native.Nat.{ℕ}
use base.Fml.{Lft}
use denote.MutBor.{MutBor}
use Rattle.std.specs.Prelude.{Result}
use Rattle.machine.specs.declared.refusals.Refusal.{Refusal}
use Rattle.interval.specs.declared.Interval.{Interval}
use Rattle.interval.specs.Interval.{reset_of}
use Rattle.interval.specs.Calls.{write_answer, read_answer, pulse_answer, jump_answer}
use Rattle.interval.specs.Outcomes.{write_answered, read_answered, pulse_answered}
use Rattle.interval.specs.Lists.{Call, play, reply_of_write, reply_of_read, reply_of_pulse}
use Rattle.laws.proofs.Guards.{told}
use Rattle.c53.proofs.reset.Reads as reset-reads
use Rattle.c53.proofs.write.Reads as write-reads
use Rattle.c53.proofs.read.Reads as read-reads
use Rattle.c53.proofs.pulse.Reads as pulse-reads
use Rattle.c53.proofs.jump.Reads as jump-reads

pub reset_promises : (r : Interval) → reset-reads.Learnt tt tt r tt → r ≡ reset_of
reset_promises r e = e

-- the chip that is lent, before a call and after it
module _ (κ : Lft) (c after : MutBor Interval) where
  pub write_promises : (a v : ℕ) (r : Result (Unit {0}) Refusal) → write-reads.Learnt (κ, tt) (c, (a, (v, tt))) r (after, (a, (v, tt)))
      → (write_answered r after.now ≡ write_answer c.now a v)
      × (reply_of_write (write_answered r after.now) ≡ (play (Call.write a v) c.now).reply)
  unfolding play
  write_promises a v r = told reply_of_write

  pub read_promises : (a : ℕ) (r : Result ℕ Refusal) → read-reads.Learnt (κ, tt) (c, (a, tt)) r (after, (a, tt))
      → (read_answered r after.now ≡ read_answer c.now a)
      × (reply_of_read (read_answered r after.now) ≡ (play (Call.read a) c.now).reply)
  unfolding play
  read_promises a r = told reply_of_read

  pub pulse_promises : (gates : ℕ) (r : Result ℕ Refusal) → pulse-reads.Learnt (κ, tt) (c, (gates, tt)) r (after, (gates, tt))
      → (pulse_answered r after.now ≡ pulse_answer c.now gates)
      × (reply_of_pulse (pulse_answered r after.now) ≡ (play (Call.pulse gates) c.now).reply)
  unfolding play
  pulse_promises gates r = told reply_of_pulse

  pub jump_promises : (gates n : ℕ) (r : Result ℕ Refusal) → jump-reads.Learnt (κ, tt) (c, (gates, (n, tt))) r (after, (gates, (n, tt)))
      → (pulse_answered r after.now ≡ jump_answer c.now gates n)
      × (reply_of_pulse (pulse_answered r after.now) ≡ (play (Call.jump gates n) c.now).reply)
  unfolding play
  jump_promises gates n r = told reply_of_pulse
