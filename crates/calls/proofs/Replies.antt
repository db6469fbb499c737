-- What an outcome replies is what its answer, written down as the plain machine has it, replies; and the device is the answer's.
use mathlib.Core.Path.{◌≡◌, ap}
use Prim.Native.Nat.{ℕ}
use Rattle.std.specs.Prelude.{Option, Some, None, Result, Ok, Err}
use Rattle.machine.specs.declared.Device.{Device}
use Rattle.machine.specs.declared.Totals.{Totals}
use Rattle.machine.specs.declared.Answer.{Answer}
use Rattle.machine.specs.declared.Jumped.{Jumped}
use Rattle.machine.specs.declared.refusals.Refusal.{Refusal}
use Rattle.machine.specs.Answers.{JumpAnswer, RunAnswer, CycleAnswer, TakeAnswer, ReadAnswer, OfferAnswer, LookAnswer}
use Rattle.machine.specs.Lists.{played, reply_of, reply_of_jump, reply_of_run, reply_of_cycle, reply_of_take, reply_of_read, reply_of_offer, reply_of_look}
use Rattle.machine.specs.Outcomes.{answered, cycle_answered, jump_answered, run_answered, take_answered, read_answered, offer_answered, look_answered}
use Rattle.calls.specs.Row.{plain_reply, number_reply, jump_reply, run_reply, sought_reply}

-- a call as it is played: its reply and the device
module _ (d : Device) where
  pub plain_played : (o : Result (Unit {0}) Refusal) {a : Answer} → answered o d ≡ a → played (plain_reply o) d ≡ played (reply_of a) a.device
  plain_played o e = ap (λ (a : Answer). played (reply_of a) a.device) e

  pub cycle_played : (o : Result ℕ Refusal) {a : CycleAnswer} → cycle_answered o d ≡ a
      → played (number_reply o) d ≡ played (reply_of_cycle a) a.device
  cycle_played (Ok n) e = ap (λ (a : CycleAnswer). played (reply_of_cycle a) a.device) e
  cycle_played (Err n) e = ap (λ (a : CycleAnswer). played (reply_of_cycle a) a.device) e

  pub take_played : (o : Result ℕ Refusal) {a : TakeAnswer} → take_answered o d ≡ a
      → played (number_reply o) d ≡ played (reply_of_take a) a.device
  take_played (Ok n) e = ap (λ (a : TakeAnswer). played (reply_of_take a) a.device) e
  take_played (Err n) e = ap (λ (a : TakeAnswer). played (reply_of_take a) a.device) e

  pub jump_played : (o : Result Jumped Refusal) {a : JumpAnswer} → jump_answered o d ≡ a
      → played (jump_reply o) d ≡ played (reply_of_jump a) a.device
  jump_played (Ok j) e = ap (λ (a : JumpAnswer). played (reply_of_jump a) a.device) e
  jump_played (Err n) e = ap (λ (a : JumpAnswer). played (reply_of_jump a) a.device) e

  pub run_played : (o : Result Totals Refusal) {a : RunAnswer} → run_answered o d ≡ a
      → played (run_reply o) d ≡ played (reply_of_run a) a.device
  run_played (Ok t) e = ap (λ (a : RunAnswer). played (reply_of_run a) a.device) e
  run_played (Err n) e = ap (λ (a : RunAnswer). played (reply_of_run a) a.device) e

pub read_replied : (o : Result ℕ Refusal) {a : ReadAnswer} → read_answered o ≡ a → number_reply o ≡ reply_of_read a
read_replied (Ok n) e = ap reply_of_read e
read_replied (Err n) e = ap reply_of_read e

pub offer_replied : (o : Result (Option ℕ) Refusal) {a : OfferAnswer} → offer_answered o ≡ a → sought_reply o ≡ reply_of_offer a
offer_replied (Ok (Some n)) e = ap reply_of_offer e
offer_replied (Ok None) e = ap reply_of_offer e
offer_replied (Err n) e = ap reply_of_offer e

pub look_replied : (o : Result (Option ℕ) Refusal) {a : LookAnswer} → look_answered o ≡ a → sought_reply o ≡ reply_of_look a
look_replied (Ok (Some n)) e = ap reply_of_look e
look_replied (Ok None) e = ap reply_of_look e
look_replied (Err n) e = ap reply_of_look e
