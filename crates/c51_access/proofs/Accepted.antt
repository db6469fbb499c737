-- A reset gives an accepted record, and a write keeps one accepted: the device of the answer is the one given or one that the parts'
-- ranges accept.
use mathlib.Core.Path.{◌≡◌}
use mathlib.Core.Bool.{true}
use Prim.Native.Nat.{ℕ, ◌<◌}
use Rattle.machine.proofs.Choices.{by_test}
use Rattle.machine.specs.declared.Device.{Device}
use Rattle.machine.specs.Registers.{lacks}
use Rattle.machine.specs.Power.{powered_down}
use Rattle.machine.specs.Record.{accepted}
use Rattle.machine.specs.Calls.{reset_answer, write_answer}
use Rattle.record.proofs.Accepted.{reset_accepted51, reset_accepted52}
use Rattle.record.proofs.Written.{write_accepted}

-- reset of kind 51 and of kind 52
pub reset_kept51 : accepted (reset_answer 51).device ≡ true
unfolding reset_answer
reset_kept51 = reset_accepted51

pub reset_kept52 : accepted (reset_answer 52).device ≡ true
unfolding reset_answer
reset_kept52 = reset_accepted52

module _ (d : Device) (a : accepted d ≡ true) where
  pub write_kept : (address v : ℕ) → v < 256 → accepted (write_answer d address v).device ≡ true
  unfolding write_answer
  write_kept address v h =
      rw a
      (by_test (powered_down d.pcon) (λ down. rw down a)
      (λ up. rw up (by_test (lacks d.kind address) (λ lacking. rw lacking a) (λ there. rw there (write_accepted d address v h a)))))
