-- How an outcome of the code, a Result, is written down: as document 01 has it, 0 and what the call gives, or the refusal's number and
-- zeros. The public calls promise that what they give, so written, is the plain machine's answer.
use Rattle.std.specs.Prelude.{ℕ, Option, Some, None, Result, Ok, Err}
use Rattle.machine.specs.declared.Device.{Device}
use Rattle.machine.specs.declared.Totals.{Totals}
use Rattle.machine.specs.declared.Answer.{Answer}
use Rattle.machine.specs.declared.Jumped.{Jumped}
use Rattle.machine.specs.declared.refusals.Refusal.{Refusal}
use Rattle.machine.specs.declared.refusals.Refusal.TheVariants.{BadRecord, BadKind, BadAddress, BadPins, TooLong, NothingOffered, NothingInService, EmptyEntry, PoweredDown, BadMode, BadChoice, BadCount, BadSpeed, BadLength, BadLayout, BadValue, BadTunnels, BadWish}
use Rattle.machine.specs.Answers.{JumpAnswer, RunAnswer, CycleAnswer, TakeAnswer, ReadAnswer, OfferAnswer, LookAnswer, ReadAnswer as Read, OfferAnswer as Offer, LookAnswer as Look}
use Rattle.machine.specs.Calls.{refuse_cycle, refuse_jump, passed_jump, refuse_run, passed_run, refuse_take}

-- The refusals by their numbers, as document 01's table has them, and document 02's requests after it
abbrev pub number : Refusal → ℕ
number BadRecord = 1
number BadKind = 2
number BadAddress = 3
number BadPins = 4
number TooLong = 5
number NothingOffered = 6
number NothingInService = 7
number EmptyEntry = 8
number PoweredDown = 10
number BadMode = 11
number BadChoice = 12
number BadCount = 13
number BadSpeed = 14
number BadLength = 15
number BadLayout = 16
number BadValue = 17
number BadTunnels = 18
number BadWish = 19

-- 0, or the refusal's number
abbrev pub code_of : {A : Type 0} → Result A Refusal → ℕ
code_of (Ok x) = 0
code_of (Err e) = number e

-- a reset, a write, a return and a load, which give nothing, and the device that they leave
abbrev pub answered : Result (Unit {0}) Refusal → Device → Answer
answered r d = record { code = code_of r; device = d }

-- a cycle gives the output line
abbrev pub cycle_answered : Result ℕ Refusal → Device → CycleAnswer
cycle_answered (Ok line) d = record { code = 0; line = line; device = d }
cycle_answered (Err e) d = refuse_cycle (number e) d

-- a jump the overflow totals and the rounds
abbrev pub jump_answered : Result Jumped Refusal → Device → JumpAnswer
jump_answered (Ok j) d = passed_jump j.totals j.rounds d
jump_answered (Err e) d = refuse_jump (number e) d

-- a trace run the overflow totals
abbrev pub run_answered : Result Totals Refusal → Device → RunAnswer
run_answered (Ok t) d = passed_run t d
run_answered (Err e) d = refuse_run (number e) d

-- a take the vector
abbrev pub take_answered : Result ℕ Refusal → Device → TakeAnswer
take_answered (Ok vector) d = record { code = 0; vector = vector; device = d }
take_answered (Err e) d = refuse_take (number e) d

-- a read the value
abbrev pub read_answered : Result ℕ Refusal → ReadAnswer
read_answered (Ok value) = Read.Value value
read_answered (Err e) = Read.Refused (number e)

-- an offer the vector, or that nothing is offered
abbrev pub offer_answered : Result (Option ℕ) Refusal → OfferAnswer
offer_answered (Ok (Some vector)) = Offer.Vector vector
offer_answered (Ok None) = Offer.Nothing
offer_answered (Err e) = Offer.Refused (number e)

-- a look the cycle, or that there is none
abbrev pub found : Option ℕ → LookAnswer
found (Some k) = Look.At k
found None = Look.Nothing

abbrev pub look_answered : Result (Option ℕ) Refusal → LookAnswer
look_answered (Ok k) = found k
look_answered (Err e) = Look.Refused (number e)
