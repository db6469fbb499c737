-- An outcome and the answer that it is written down as tell as much: refusals differ in their numbers, no number is 0, and every answer of
-- the plain machine is that of an outcome.
use mathlib.Core.Path.{◌≡◌, refl, sym, ap, ◌∙◌}
use mathlib.Core.Bool.{Bool, false, cond}
use mathlib.Core.List.{List, [], ◌∷◌}
use Prim.Native.Nat.{ℕ, zero, suc}
use Rattle.std.specs.Prelude.{Option, Some, None, Result, Ok, Err}
use lib.Dec.{eqb, leb}
use lib.ListN.{length}
use borrow.Author.Tests.{eqb-false}
use Rattle.machine.specs.declared.Device.{Device}
use Rattle.machine.specs.declared.Answer.{Answer}
use Rattle.machine.specs.declared.Totals.{Totals}
use Rattle.machine.specs.declared.Jumped.{Jumped}
use Rattle.machine.specs.declared.refusals.Refusal.{Refusal}
use Rattle.machine.specs.declared.refusals.Refusal.TheVariants.{BadRecord, BadKind, BadAddress, BadPins, TooLong, NothingOffered, NothingInService, EmptyEntry, PoweredDown, BadMode, BadChoice, BadCount, BadSpeed, BadLength, BadLayout, BadValue, BadTunnels, BadWish}
use Rattle.machine.specs.Answers.{JumpAnswer, RunAnswer, CycleAnswer, TakeAnswer, ReadAnswer, OfferAnswer, LookAnswer}
use Rattle.machine.specs.Power.{powered_down}
use Rattle.machine.specs.Registers.{lacks}
use Rattle.machine.specs.Record.{accepted, pins_ok, kind_ok}
use Rattle.machine.specs.Interrupts.{Source, none, source, offered, none_in_service}
use Rattle.machine.specs.Cycle.{cycle_of}
use Rattle.machine.specs.Calls.{unless, refuse_run, passed_run, trace_totals, trace_cycles, first_cycle, rises, offers_to, wakes, first_rise, first_offer, longest, most_entries, cycles_fault, entry_pins, entry_cycles, entry_fault, first_bad, trace_fault, judged_look, reset_answer, read_answer, write_answer, cycle_answer, jump_answer, trace_answer, look_answer, wake_answer, offer_of, offer_answer, take_of, take_answer, return_answer}
use Rattle.machine.specs.Outcomes.{number, code_of, answered, cycle_answered, jump_answered, run_answered, take_answered, read_answered, offer_answered, found, look_answered}
use Rattle.machine.proofs.Choices.{chosen}

-- the refusal of a number
refusal_of : ℕ → Refusal
refusal_of n =
    cond (eqb n 1) BadRecord
    (cond (eqb n 2) BadKind
    (cond (eqb n 3) BadAddress
    (cond (eqb n 4) BadPins
    (cond (eqb n 5) TooLong
    (cond (eqb n 6) NothingOffered
    (cond (eqb n 7) NothingInService
    (cond (eqb n 8) EmptyEntry
    (cond (eqb n 10) PoweredDown
    (cond (eqb n 11) BadMode
    (cond (eqb n 12) BadChoice
    (cond (eqb n 13) BadCount
    (cond (eqb n 14) BadSpeed
    (cond (eqb n 15) BadLength
    (cond (eqb n 16) BadLayout
    (cond (eqb n 17) BadValue
    (cond (eqb n 18) BadTunnels
    BadWish))))))))))))))))

number_back : (e : Refusal) → refusal_of (number e) ≡ e
unfolding refusal_of
number_back BadRecord = refl
number_back BadKind = refl
number_back BadAddress = refl
number_back BadPins = refl
number_back TooLong = refl
number_back NothingOffered = refl
number_back NothingInService = refl
number_back EmptyEntry = refl
number_back PoweredDown = refl
number_back BadMode = refl
number_back BadChoice = refl
number_back BadCount = refl
number_back BadSpeed = refl
number_back BadLength = refl
number_back BadLayout = refl
number_back BadValue = refl
number_back BadTunnels = refl
number_back BadWish = refl

-- refusals differ in their numbers
pub number_differs : (e f : Refusal) → number e ≡ number f → e ≡ f
number_differs e f p = sym (number_back e) ∙ (ap refusal_of p ∙ number_back f)

-- and none has 0
pub number_not_0 : (e : Refusal) → eqb (number e) 0 ≡ false
number_not_0 BadRecord = refl
number_not_0 BadKind = refl
number_not_0 BadAddress = refl
number_not_0 BadPins = refl
number_not_0 TooLong = refl
number_not_0 NothingOffered = refl
number_not_0 NothingInService = refl
number_not_0 EmptyEntry = refl
number_not_0 PoweredDown = refl
number_not_0 BadMode = refl
number_not_0 BadChoice = refl
number_not_0 BadCount = refl
number_not_0 BadSpeed = refl
number_not_0 BadLength = refl
number_not_0 BadLayout = refl
number_not_0 BadValue = refl
number_not_0 BadTunnels = refl
number_not_0 BadWish = refl

pub number_some : (e : Refusal) → number e ≡ 0 → ⊥
number_some e = eqb-false (number e) 0 (number_not_0 e)

-- Every answer is that of an outcome

abbrev Said : Answer → Type 0
Said a = (o : Result (Unit {0}) Refusal) × (answered o a.device ≡ a)

abbrev SaidCycle : CycleAnswer → Type 0
SaidCycle a = (o : Result ℕ Refusal) × (cycle_answered o a.device ≡ a)

abbrev SaidJump : JumpAnswer → Type 0
SaidJump a = (o : Result Jumped Refusal) × (jump_answered o a.device ≡ a)

abbrev SaidRun : RunAnswer → Type 0
SaidRun a = (o : Result Totals Refusal) × (run_answered o a.device ≡ a)

abbrev SaidTake : TakeAnswer → Type 0
SaidTake a = (o : Result ℕ Refusal) × (take_answered o a.device ≡ a)

abbrev SaidRead : ReadAnswer → Type 0
SaidRead a = (o : Result ℕ Refusal) × (read_answered o ≡ a)

abbrev SaidOffer : OfferAnswer → Type 0
SaidOffer a = (o : Result (Option ℕ) Refusal) × (offer_answered o ≡ a)

abbrev SaidLook : LookAnswer → Type 0
SaidLook a = (o : Result (Option ℕ) Refusal) × (look_answered o ≡ a)

-- a fault is 0 or a refusal's number
abbrev SaidFault : ℕ → Type 0
SaidFault n = (o : Result (Unit {0}) Refusal) × (code_of o ≡ n)

-- what a search finds
abbrev Found : LookAnswer → Type 0
Found a = (o : Option ℕ) × (found o ≡ a)

found_said : (finds : Device → Device → Bool) (k n pins : ℕ) (d : Device) → Found (first_cycle finds k n pins d)
unfolding first_cycle
found_said finds k zero pins d = (None, refl)
found_said finds k (suc n) pins d =
    chosen Found (finds d (cycle_of pins d)) _ _ (Some (suc k), refl) (found_said finds (suc k) n pins (cycle_of pins d))

-- a trace's fault
entry_fault_said : (e : ℕ) → SaidFault (entry_fault e)
unfolding entry_fault
entry_fault_said e =
    chosen SaidFault (pins_ok (entry_pins e)) _ _
    (chosen SaidFault (eqb (entry_cycles e) 0) _ _ (Err EmptyEntry, refl) (Ok tt, refl))
    (Err BadPins, refl)

first_bad_said : (es : List ℕ) → SaidFault (first_bad es)
unfolding first_bad
first_bad_said [] = (Ok tt, refl)
first_bad_said (e ∷ es) = chosen SaidFault (eqb (entry_fault e) 0) _ _ (first_bad_said es) (entry_fault_said e)

trace_fault_said : (es : List ℕ) → SaidFault (trace_fault es)
unfolding trace_fault
trace_fault_said es = chosen SaidFault (leb (length es) most_entries) _ _ (first_bad_said es) (Err TooLong, refl)

pub reset_said : (kind : ℕ) → Said (reset_answer kind)
unfolding reset_answer
reset_said kind = chosen Said (kind_ok kind) _ _ (Ok tt, refl) (Err BadKind, refl)

module _ (d : Device) where
  pub read_said : (address : ℕ) → SaidRead (read_answer d address)
  unfolding read_answer
  read_said address =
      chosen SaidRead (accepted d) _ _
      (chosen SaidRead (lacks d.kind address) _ _ (Err BadAddress, refl) (Ok _, refl))
      (Err BadRecord, refl)

  pub write_said : (address value : ℕ) → Said (write_answer d address value)
  unfolding write_answer
  write_said address value =
      chosen Said (accepted d) _ _
      (chosen Said (powered_down d.pcon) _ _ (Err PoweredDown, refl)
      (chosen Said (lacks d.kind address) _ _ (Err BadAddress, refl) (Ok tt, refl)))
      (Err BadRecord, refl)

  pub cycle_said : (pins : ℕ) → SaidCycle (cycle_answer d pins)
  unfolding cycle_answer
  cycle_said pins =
      chosen SaidCycle (accepted d) _ _
      (chosen SaidCycle (pins_ok pins) _ _ (Ok _, refl) (Err BadPins, refl))
      (Err BadRecord, refl)

  cycles_fault_said : (pins n : ℕ) → SaidFault (cycles_fault d pins n)
  unfolding cycles_fault
  cycles_fault_said pins n =
      chosen SaidFault (accepted d) _ _
      (chosen SaidFault (pins_ok pins) _ _
      (chosen SaidFault (leb n longest) _ _ (Ok tt, refl) (Err TooLong, refl))
      (Err BadPins, refl))
      (Err BadRecord, refl)

  pub jump_said : (pins n : ℕ) → SaidJump (jump_answer d pins n)
  unfolding jump_answer
  jump_said pins n = go (cycles_fault_said pins n)
    where
      go : SaidFault (cycles_fault d pins n) → SaidJump (jump_answer d pins n)
      go (Ok x, p) = rw (← p) (Ok _, refl)
      go (Err e, p) = rw (← p, number_not_0 e) (Err e, refl)

  judged_said : (pins n : ℕ) (a : LookAnswer) → Found a → SaidLook (judged_look d pins n a)
  judged_said pins n a (o, q) = go (cycles_fault_said pins n)
    where
      go : SaidFault (cycles_fault d pins n) → SaidLook (judged_look d pins n a)
      go (Ok x, p) = rw (← p) (Ok o, q)
      go (Err e, p) = rw (← p, number_not_0 e) (Err e, refl)

  pub look_said : (pins n : ℕ) → SaidLook (look_answer d pins n)
  unfolding look_answer
  look_said pins n = judged_said pins n (first_rise n pins d) (found_said rises 0 n pins d)

  pub wake_said : (pins n : ℕ) → SaidLook (wake_answer d pins n)
  unfolding wake_answer
  wake_said pins n =
      judged_said pins n (first_offer n pins d)
      (chosen Found (offers_to d) _ _ (Some 0, refl) (found_said wakes 0 n pins d))

  pub trace_said : (es : List ℕ) → SaidRun (trace_answer d es)
  unfolding trace_answer
  trace_said es = chosen SaidRun (accepted d) _ _ (go (trace_fault_said es)) (Err BadRecord, refl)
    where
      go : SaidFault (trace_fault es)
          → SaidRun (unless (eqb (trace_fault es) 0) (refuse_run (trace_fault es) d) (passed_run (trace_totals es d) (trace_cycles es d)))
      go (Ok x, p) = rw (← p) (Ok _, refl)
      go (Err e, p) = rw (← p, number_not_0 e) (Err e, refl)

  pub offer_said : SaidOffer (offer_answer d)
  unfolding offer_answer offer_of
  offer_said = chosen SaidOffer (accepted d) _ _ (go (offered d.pcon d.interrupts)) (Err BadRecord, refl)
    where
      go : (s : Source) → SaidOffer (offer_of s)
      go none = (Ok None, refl)
      go (source k) = (Ok (Some _), refl)

  pub take_said : SaidTake (take_answer d)
  unfolding take_answer take_of
  take_said =
      chosen SaidTake (accepted d) _ _
      (chosen SaidTake (powered_down d.pcon) _ _ (Err PoweredDown, refl) (go (offered d.pcon d.interrupts)))
      (Err BadRecord, refl)
    where
      go : (s : Source) → SaidTake (take_of d s)
      go none = (Err NothingOffered, refl)
      go (source k) = (Ok _, refl)

  pub return_said : Said (return_answer d)
  unfolding return_answer
  return_said =
      chosen Said (accepted d) _ _
      (chosen Said (powered_down d.pcon) _ _ (Err PoweredDown, refl)
      (chosen Said (none_in_service d.interrupts) _ _ (Err NothingInService, refl) (Ok tt, refl)))
      (Err BadRecord, refl)
