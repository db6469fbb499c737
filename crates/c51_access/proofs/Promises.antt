-- What a caller learns from the contract of a call, `Learnt`, gives the plain machine's answer, and with it the reply: document 01's
-- number and values, by the definition that gives them for the call's answer. The device is lent: d before the call, e after it.
use Prim.Native.Nat.{ℕ}
use base.Fml.{Lft}
use Rattle.std.specs.Prelude.{Result}
use Rattle.std.specs.Borrow.{MutBor}
use Rattle.machine.specs.declared.Device.{Device}
use Rattle.machine.specs.declared.refusals.Refusal.{Refusal}
use Rattle.machine.specs.Outcomes.{answered, read_answered}
use Rattle.machine.specs.Calls.{reset_answer, read_answer, write_answer}
use Rattle.machine.specs.Lists.{Call, play, reply_of, reply_of_read}
use Rattle.laws.proofs.Guards.{told, Says}
use Rattle.c51_access.proofs.reset.Reads as reset-reads
use Rattle.c51_access.proofs.read.Reads as read-reads
use Rattle.c51_access.proofs.write.Reads as write-reads

pub reset_promises : (κ : Lft) (kind : ℕ) (d e : MutBor Device) (r : Result (Unit {0}) Refusal)
    → reset-reads.Learnt (κ, tt) (d, (kind, tt)) r (e, (kind, tt))
    → Says reply_of (Call.reset kind) d.now (reset_answer kind) (answered r e.now)
unfolding play
reset_promises κ kind d e r = told reply_of

pub read_promises : (d : Device) (a : ℕ) (r : Result ℕ Refusal) → read-reads.Learnt tt (d, (a, tt)) r (d, (a, tt))
    → Says reply_of_read (Call.read a) d (read_answer d a) (read_answered r)
read_promises d a r e = e

pub write_promises : (κ : Lft) (a v : ℕ) (d e : MutBor Device) (r : Result (Unit {0}) Refusal)
    → write-reads.Learnt (κ, tt) (d, (a, (v, tt))) r (e, (a, (v, tt)))
    → Says reply_of (Call.write a v) d.now (write_answer d.now a v) (answered r e.now)
unfolding play
write_promises κ a v d e r = told reply_of
