-- Every answer of the plain 82C53 is that of an outcome; and what a refused byte leaves of the chip.
use mathlib.Core.Path.{◌≡◌, refl}
use mathlib.Core.Bool.{◌||◌}
use Prim.Native.Nat.{ℕ, zero, suc}
use Rattle.std.specs.Prelude.{Result, Ok, Err}
use native.Mathlib.Omega.{arith}
use lib.Dec.{eqb, leb, ltb}
use borrow.Author.Tests.{ne_eqb}
use Rattle.machine.specs.declared.refusals.Refusal.{Refusal}
use Rattle.machine.specs.declared.refusals.Refusal.TheVariants.{BadRecord, BadPins, TooLong, BadMode, BadChoice, BadCount}
use Rattle.machine.specs.Calls.{longest}
use Rattle.machine.proofs.Choices.{chosen}
use Rattle.machine.proofs.Outcomes.{number_not_0}
use Rattle.interval.specs.declared.Counter.{Counter}
use Rattle.interval.specs.declared.Interval.{Interval}
use Rattle.interval.specs.Answers.{CounterAnswer, WriteAnswer, ReadAnswer, PulseAnswer}
use Rattle.interval.specs.Counter.{LATCH, choice_in, format_in, is_mode0, is_mode2, control, low_first, whole, bad_count, write_byte}
use Rattle.interval.specs.Interval.{accepted, counter_at, put_at, gates_ok}
use Rattle.interval.specs.Calls.{answered, control_answer, write_answer, read_answer, pulse_answer, jump_answer}
use Rattle.interval.specs.Outcomes.{counter_answered, write_answered, read_answered, pulse_answered}

-- a counter put back where it was
pub put_back : (i : ℕ) (c : Interval) → put_at i (counter_at i c) c ≡ c
unfolding put_at counter_at
put_back zero c = refl
put_back (suc zero) c = refl
put_back (suc (suc zero)) c = refl
put_back (suc (suc (suc i))) c =
    let j = suc (suc (suc i)) in
    simp (ne_eqb j 0 (λ e. omega arith), ne_eqb j 1 (λ e. omega arith), ne_eqb j 2 (λ e. omega arith))

abbrev SaidCounter : Counter → CounterAnswer → Type 0
SaidCounter k a = (o : Result Counter Refusal) × (counter_answered o k ≡ a)

abbrev SaidWrite : WriteAnswer → Type 0
SaidWrite a = (o : Result (Unit {0}) Refusal) × (write_answered o a.interval ≡ a)

abbrev SaidRead : ReadAnswer → Type 0
SaidRead a = (o : Result ℕ Refusal) × (read_answered o a.interval ≡ a)

abbrev SaidPulse : PulseAnswer → Type 0
SaidPulse a = (o : Result ℕ Refusal) × (pulse_answered o a.interval ≡ a)

control_said : (word : ℕ) (k : Counter) → SaidCounter k (control word k)
unfolding control
control_said word k =
    chosen (SaidCounter k) (eqb (format_in word) LATCH) _ _ (Ok _, refl)
    (chosen (SaidCounter k) (is_mode0 word || is_mode2 word) _ _ (Ok _, refl) (Err BadMode, refl))

write_byte_said : (byte : ℕ) (k : Counter) → SaidCounter k (write_byte byte k)
unfolding write_byte
write_byte_said byte k =
    chosen (SaidCounter k) (low_first k) _ _ (Ok _, refl)
    (chosen (SaidCounter k) (bad_count (whole byte k) k) _ _ (Err BadCount, refl) (Ok _, refl))

module _ (c : Interval) where
  answered_said : (i : ℕ) (k : Counter) (r : CounterAnswer) → SaidCounter k r → SaidWrite (answered i r c)
  unfolding answered
  answered_said i k r (Ok after, p) = rw (← p) (Ok tt, refl)
  answered_said i k r (Err e, p) = rw (← p, number_not_0 e) (Err e, refl)

  pub write_said : (address byte : ℕ) → SaidWrite (write_answer c address byte)
  unfolding write_answer control_answer
  write_said address byte =
      chosen SaidWrite (accepted c) _ _
      (chosen SaidWrite (leb address 3) _ _
      (chosen SaidWrite (eqb address 3) _ _
      (chosen SaidWrite (ltb (choice_in byte) 3) _ _ (answered_said (choice_in byte) _ _ (control_said byte _)) (Err BadChoice, refl))
      (answered_said address _ _ (write_byte_said byte _)))
      (Err BadChoice, refl))
      (Err BadRecord, refl)

  pub read_said : (address : ℕ) → SaidRead (read_answer c address)
  unfolding read_answer
  read_said address =
      chosen SaidRead (accepted c) _ _
      (chosen SaidRead (ltb address 3) _ _ (Ok _, refl) (Err BadChoice, refl))
      (Err BadRecord, refl)

  pub pulse_said : (gates : ℕ) → SaidPulse (pulse_answer c gates)
  unfolding pulse_answer
  pulse_said gates =
      chosen SaidPulse (accepted c) _ _
      (chosen SaidPulse (gates_ok gates) _ _ (Ok _, refl) (Err BadPins, refl))
      (Err BadRecord, refl)

  pub jump_said : (gates n : ℕ) → SaidPulse (jump_answer c gates n)
  unfolding jump_answer
  jump_said gates n =
      chosen SaidPulse (accepted c) _ _
      (chosen SaidPulse (gates_ok gates) _ _
      (chosen SaidPulse (leb n longest) _ _ (Ok _, refl) (Err TooLong, refl))
      (Err BadPins, refl))
      (Err BadRecord, refl)
