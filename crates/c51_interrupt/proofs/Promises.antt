-- What a caller learns from the contract of a call, `Learnt`, gives the plain machine's answer, and with it the reply: document 01's
-- number and values, by the definition that gives them for the call's answer. Where the device is lent, it is d before and e after.
use Prim.Native.Nat.{ℕ}
use base.Fml.{Lft}
use Rattle.std.specs.Prelude.{Option, Result}
use Rattle.std.specs.Borrow.{MutBor}
use Rattle.machine.specs.declared.Device.{Device}
use Rattle.machine.specs.declared.refusals.Refusal.{Refusal}
use Rattle.machine.specs.Outcomes.{answered, take_answered, offer_answered}
use Rattle.machine.specs.Calls.{offer_answer, take_answer, return_answer}
use Rattle.machine.specs.Lists.{Call, play, reply_of, reply_of_take, reply_of_offer}
use Rattle.laws.proofs.Guards.{told, Says}
use Rattle.c51_interrupt.proofs.offer.Reads as offer-reads
use Rattle.c51_interrupt.proofs.take.Reads as take-reads
use Rattle.c51_interrupt.proofs.reti.Reads as return-reads

pub offer_promises : (d : Device) (r : Result (Option ℕ) Refusal) → offer-reads.Learnt tt (d, tt) r (d, tt)
    → Says reply_of_offer Call.offer d (offer_answer d) (offer_answered r)
offer_promises d r e = e

pub take_promises : (κ : Lft) (d e : MutBor Device) (r : Result ℕ Refusal) → take-reads.Learnt (κ, tt) (d, tt) r (e, tt)
    → Says reply_of_take Call.take d.now (take_answer d.now) (take_answered r e.now)
unfolding play
take_promises κ d e r = told reply_of_take

pub return_promises : (κ : Lft) (d e : MutBor Device) (r : Result (Unit {0}) Refusal) → return-reads.Learnt (κ, tt) (d, tt) r (e, tt)
    → Says reply_of Call.return d.now (return_answer d.now) (answered r e.now)
unfolding play
return_promises κ d e r = told reply_of
