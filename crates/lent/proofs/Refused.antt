-- A refused call leaves the record as it was, and every other number of its answer is 0: by cases of the refusals.
use mathlib.Core.Path.{◌≡◌, refl}
use mathlib.Core.List.{List}
use Prim.Native.Nat.{ℕ}
use lib.Dec.{eqb}
use Rattle.machine.proofs.Choices.{chosen}
use Rattle.machine.specs.declared.Device.{Device}
use Rattle.machine.specs.declared.Answer.{Answer}
use Rattle.machine.specs.Answers.{JumpAnswer, RunAnswer, CycleAnswer, TakeAnswer}
use Rattle.machine.specs.Registers.{lacks}
use Rattle.machine.specs.Power.{powered_down}
use Rattle.machine.specs.Record.{accepted, pins_ok}
use Rattle.machine.specs.Totals.{no_totals}
use Rattle.machine.specs.Interrupts.{Source, none, source, offered, none_in_service}
use Rattle.machine.specs.Calls.{write_answer, cycle_answer, jump_answer, trace_answer, trace_fault, take_answer, take_of, return_answer, cycles_fault}

module _ (d : Device) where
  -- refused, or all is well
  abbrev Same : Answer → Type 0
  Same a = (a.code ≡ 0 → ⊥) → a.device ≡ d

  abbrev SameJump : JumpAnswer → Type 0
  SameJump a = (a.code ≡ 0 → ⊥) → (a.totals ≡ no_totals) × ((a.rounds ≡ 0) × (a.device ≡ d))

  abbrev SameRun : RunAnswer → Type 0
  SameRun a = (a.code ≡ 0 → ⊥) → (a.totals ≡ no_totals) × (a.device ≡ d)

  abbrev SameCycle : CycleAnswer → Type 0
  SameCycle a = (a.code ≡ 0 → ⊥) → (a.line ≡ 0) × (a.device ≡ d)

  abbrev SameTake : TakeAnswer → Type 0
  SameTake a = (a.code ≡ 0 → ⊥) → (a.vector ≡ 0) × (a.device ≡ d)

  pub write_refused : (address value : ℕ) → Same (write_answer d address value)
  unfolding write_answer
  write_refused address value =
      chosen Same (accepted d) _ _
      (chosen Same (powered_down d.pcon) _ _ (λ _. refl)
      (chosen Same (lacks d.kind address) _ _ (λ _. refl) (λ n. absurd (n refl))))
      (λ _. refl)

  pub cycle_refused : (pins : ℕ) → SameCycle (cycle_answer d pins)
  unfolding cycle_answer
  cycle_refused pins =
      chosen SameCycle (accepted d) _ _
      (chosen SameCycle (pins_ok pins) _ _ (λ n. absurd (n refl)) (λ _. (refl, refl)))
      (λ _. (refl, refl))

  pub jump_refused : (pins n : ℕ) → SameJump (jump_answer d pins n)
  unfolding jump_answer
  jump_refused pins n =
      chosen SameJump (eqb (cycles_fault d pins n) 0) _ _ (λ n. absurd (n refl)) (λ _. (refl, (refl, refl)))

  pub trace_refused : (es : List ℕ) → SameRun (trace_answer d es)
  unfolding trace_answer
  trace_refused es =
      chosen SameRun (accepted d) _ _
      (chosen SameRun (eqb (trace_fault es) 0) _ _ (λ n. absurd (n refl)) (λ _. (refl, refl)))
      (λ _. (refl, refl))

  taken : (s : Source) → SameTake (take_of d s)
  unfolding take_of
  taken none = λ _. (refl, refl)
  taken (source k) = λ n. absurd (n refl)

  pub take_refused : SameTake (take_answer d)
  unfolding take_answer
  take_refused =
      chosen SameTake (accepted d) _ _
      (chosen SameTake (powered_down d.pcon) _ _ (λ _. (refl, refl)) (taken (offered d.pcon d.interrupts)))
      (λ _. (refl, refl))

  pub return_refused : Same (return_answer d)
  unfolding return_answer
  return_refused =
      chosen Same (accepted d) _ _
      (chosen Same (powered_down d.pcon) _ _ (λ _. refl)
      (chosen Same (none_in_service d.interrupts) _ _ (λ _. refl) (λ n. absurd (n refl))))
      (λ _. refl)
