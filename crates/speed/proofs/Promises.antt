-- What a caller learns from the contract of `speed`, `Learnt`, is the definition's answer; and so what that answer says is so.
use Rattle.std.proofs.Common.{ℕ, ◌≡◌, Option, Result}
use Rattle.machine.specs.declared.refusals.Refusal.{Refusal}
use Rattle.baud.specs.declared.Setting.{Setting}
use Rattle.baud.specs.Answers.{speed_answered}
use Rattle.baud.specs.Speed.{speed}
use Rattle.speed.specs.Chosen.{Says}
use Rattle.speed.proofs.Chosen.{chooses}
use Rattle.speed.proofs.speed.Reads as speed-reads

pub speed_promises : (crystal rate tolerance : ℕ) (r : Result (Option Setting) Refusal)
    → speed-reads.Learnt tt (crystal, (rate, (tolerance, tt))) r (crystal, (rate, (tolerance, tt)))
    → (speed_answered r ≡ speed crystal rate tolerance) × Says crystal rate tolerance (speed_answered r)
speed_promises crystal rate tolerance r e = (e, rw e (chooses.so crystal rate tolerance))
