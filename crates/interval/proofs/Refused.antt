-- A refused call of the 82C53 leaves the chip as it was, and every other number of its answer is 0: by cases of the refusals.
use mathlib.Core.Path.{◌≡◌, refl}
use Prim.Native.Nat.{ℕ}
use lib.Dec.{eqb, leb, ltb}
use Rattle.machine.specs.Calls.{longest}
use Rattle.machine.proofs.Choices.{chosen}
use Rattle.interval.specs.declared.Interval.{Interval}
use Rattle.interval.specs.Answers.{CounterAnswer, WriteAnswer, ReadAnswer, PulseAnswer}
use Rattle.interval.specs.Counter.{choice_in}
use Rattle.interval.specs.Interval.{accepted, gates_ok}
use Rattle.interval.specs.Calls.{answered, control_answer, write_answer, read_answer, pulse_answer, jump_answer}

module _ (c : Interval) where
  -- refused, or all is well
  abbrev SameWrite : WriteAnswer → Type 0
  SameWrite a = (a.code ≡ 0 → ⊥) → a.interval ≡ c

  abbrev SameRead : ReadAnswer → Type 0
  SameRead a = (a.code ≡ 0 → ⊥) → (a.value ≡ 0) × (a.interval ≡ c)

  abbrev SamePulse : PulseAnswer → Type 0
  SamePulse a = (a.code ≡ 0 → ⊥) → (a.outputs ≡ 0) × (a.interval ≡ c)

  answered_refused : (i : ℕ) (r : CounterAnswer) → SameWrite (answered i r c)
  unfolding answered
  answered_refused i r = chosen SameWrite (eqb r.code 0) _ _ (λ n. absurd (n refl)) (λ _. refl)

  pub write_refused : (address byte : ℕ) → SameWrite (write_answer c address byte)
  unfolding write_answer control_answer
  write_refused address byte =
      chosen SameWrite (accepted c) _ _
      (chosen SameWrite (leb address 3) _ _
      (chosen SameWrite (eqb address 3) _ _
      (chosen SameWrite (ltb (choice_in byte) 3) _ _ (answered_refused (choice_in byte) _) (λ _. refl))
      (answered_refused address _))
      (λ _. refl))
      (λ _. refl)

  pub read_refused : (address : ℕ) → SameRead (read_answer c address)
  unfolding read_answer
  read_refused address =
      chosen SameRead (accepted c) _ _
      (chosen SameRead (ltb address 3) _ _ (λ n. absurd (n refl)) (λ _. (refl, refl)))
      (λ _. (refl, refl))

  pub pulse_refused : (gates : ℕ) → SamePulse (pulse_answer c gates)
  unfolding pulse_answer
  pulse_refused gates =
      chosen SamePulse (accepted c) _ _
      (chosen SamePulse (gates_ok gates) _ _ (λ n. absurd (n refl)) (λ _. (refl, refl)))
      (λ _. (refl, refl))

  pub jump_refused : (gates n : ℕ) → SamePulse (jump_answer c gates n)
  unfolding jump_answer
  jump_refused gates n =
      chosen SamePulse (accepted c) _ _
      (chosen SamePulse (gates_ok gates) _ _
      (chosen SamePulse (leb n longest) _ _ (λ n. absurd (n refl)) (λ _. (refl, refl)))
      (λ _. (refl, refl)))
      (λ _. (refl, refl))
