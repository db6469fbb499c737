-- Document 02, request Five: two accepted devices out of power-down that agree in polled, IE, IP and the two in-service marks are offered
-- the same, whatever else they hold, their kinds included. It is said of the public answers: `Learnt` is what a caller learns from a
-- call's contract, as in Demand3. Proved in proofs/Offered.antt.
use Rattle.std.specs.Prelude.{ℕ, ◌≡◌, true, false, Option, Some, Result, Ok}
use base.Fml.{Lft}
use Rattle.std.specs.Borrow.{MutBor}
use Rattle.machine.specs.declared.Device.{Device}
use Rattle.machine.specs.declared.refusals.Refusal.{Refusal}
use Rattle.machine.specs.Outcomes.{code_of}
use Rattle.machine.specs.Power.{powered_down}
use Rattle.machine.specs.Record.{accepted}
use Rattle.c51_interrupt.proofs.offer.Reads as offer-reads
use Rattle.c51_interrupt.proofs.take.Reads as take-reads
use Rattle.c51_run.proofs.wake.Reads as wake-reads

-- an accepted device out of power-down, idle or not
pub record Powered (d : Device) : Type 0 where
  pub accepted : accepted d ≡ true
  pub up : powered_down d.pcon ≡ false

-- two devices that agree in the five numbers
pub record Agree (d e : Device) : Type 0 where
  pub polled : d.interrupts.polled ≡ e.interrupts.polled
  pub ie : d.interrupts.ie ≡ e.interrupts.ie
  pub ip : d.interrupts.ip ≡ e.interrupts.ip
  pub low : d.interrupts.low ≡ e.interrupts.low
  pub high : d.interrupts.high ≡ e.interrupts.high

-- two devices that are offered the same
pub record Alike (d e : Device) : Type 0 where
  -- an offer gives both the same: the vector, or nothing
  pub offers : (a b : Result (Option ℕ) Refusal) → offer-reads.Learnt tt (d, tt) a (d, tt) → offer-reads.Learnt tt (e, tt) b (e, tt) → a ≡ b
  -- a take gives both the same: the vector, or the refusal
  pub takes : (κ ι : Lft) (x y x' y' : MutBor Device) (a b : Result ℕ Refusal) → x.now ≡ d → y.now ≡ e
      → take-reads.Learnt (κ, tt) (x, tt) a (x', tt) → take-reads.Learnt (ι, tt) (y, tt) b (y', tt) → a ≡ b
  -- where a wake look of d names 0, so does every wake look of e that passes, whatever the pins and the length; and the other way round,
  -- since d and e are any two
  pub wakes : (pins pins' n n' : ℕ) (a b : Result (Option ℕ) Refusal) → wake-reads.Learnt tt (d, (pins, (n, tt))) a (d, (pins, (n, tt)))
      → wake-reads.Learnt tt (e, (pins', (n', tt))) b (e, (pins', (n', tt)))
      → code_of b ≡ 0 → a ≡ Ok (Some 0) → b ≡ Ok (Some 0)

-- the five numbers decide
abbrev pub FiveDecide : Type 0
FiveDecide = (d e : Device) → Powered d → Powered e → Agree d e → Alike d e
