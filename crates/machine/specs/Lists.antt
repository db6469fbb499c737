-- Document 01, "The plain machine": a list of calls, the answers to it and the state at its end. Document 02, request One: wake looks
-- are among them; request Seven: a jump and a trace run answer three numbers; request Eight: a list may start from a loaded device;
-- request Nine: a jump answers a fourth.
use Rattle.std.specs.Prelude.{ℕ, List, [], ◌∷◌, ◌++◌}
use Rattle.machine.specs.declared.Device.{Device}
use Rattle.machine.specs.declared.Totals.{Totals}
use Rattle.machine.specs.declared.Answer.{Answer}
use Rattle.machine.specs.Answers.{JumpAnswer, RunAnswer, CycleAnswer, TakeAnswer, ReadAnswer, OfferAnswer, LookAnswer, ReadAnswer as Read, OfferAnswer as Offer, LookAnswer as Look}
use Rattle.machine.specs.Calls.{reset_answer, read_answer, write_answer, cycle_answer, jump_answer, trace_answer, look_answer, offer_answer, take_answer, return_answer, wake_answer}
use Rattle.machine.specs.Checkpoint.{load_answer}

-- a call with its arguments other than the device
pub data Call : Type 0 where
  reset : ℕ → Call
  read : ℕ → Call
  write : ℕ → ℕ → Call
  cycle : ℕ → Call
  jump : ℕ → ℕ → Call
  trace : List ℕ → Call
  look : ℕ → ℕ → Call
  offer : Call
  take : Call
  return : Call
  wake : ℕ → ℕ → Call

-- what an answer carries beside its code: its numbers, as many as the call answers, or none, which is told apart from every number
pub data Value : Type 0 where
  numbers : List ℕ → Value
  none : Value

-- a call that answers only that it passed, and one that answers a number
abbrev pub nothing : Value
nothing = numbers []

abbrev pub number : ℕ → Value
number n = numbers (n ∷ [])

-- an answer as document 01 gives it: 0 or the refusal's number, and the value; any other number in a refused answer is 0
pub record Reply : Type 0 where
  pub code : ℕ
  pub value : Value

abbrev pub says : ℕ → Value → Reply
says c v = record { code = c; value = v }

-- each answer's number and value
abbrev pub reply_of : Answer → Reply
reply_of a = says a.code nothing

-- a jump and a trace run: the totals of Timers 0, 1 and 2; a jump, after them, its rounds
abbrev pub listed : Totals → List ℕ
listed t = t.timer0 ∷ t.timer1 ∷ t.timer2 ∷ []

abbrev pub listed_with : Totals → ℕ → List ℕ
listed_with t rounds = listed t ++ rounds ∷ []

abbrev pub reply_of_jump : JumpAnswer → Reply
reply_of_jump a = says a.code (numbers (listed_with a.totals a.rounds))

abbrev pub reply_of_run : RunAnswer → Reply
reply_of_run a = says a.code (numbers (listed a.totals))

abbrev pub reply_of_cycle : CycleAnswer → Reply
reply_of_cycle a = says a.code (number a.line)

abbrev pub reply_of_take : TakeAnswer → Reply
reply_of_take a = says a.code (number a.vector)

abbrev pub reply_of_read : ReadAnswer → Reply
reply_of_read (Read.Refused k) = says k (number 0)
reply_of_read (Read.Value v) = says 0 (number v)

abbrev pub reply_of_offer : OfferAnswer → Reply
reply_of_offer (Offer.Refused k) = says k (number 0)
reply_of_offer (Offer.Vector v) = says 0 (number v)
reply_of_offer Offer.Nothing = says 0 none

abbrev pub reply_of_look : LookAnswer → Reply
reply_of_look (Look.Refused k) = says k (number 0)
reply_of_look (Look.At k) = says 0 (number k)
reply_of_look Look.Nothing = says 0 none

-- a call's reply and the state after it
pub record Played : Type 0 where
  pub reply : Reply
  pub device : Device

abbrev pub played : Reply → Device → Played
played r d = record { reply = r; device = d }

-- one call; reads, offers and looks alter nothing
unfoldable pub play : Call → Device → Played
play (reset kind) d = played (reply_of (reset_answer kind)) (reset_answer kind).device
play (read a) d = played (reply_of_read (read_answer d a)) d
play (write a v) d = played (reply_of (write_answer d a v)) (write_answer d a v).device
play (cycle pins) d = played (reply_of_cycle (cycle_answer d pins)) (cycle_answer d pins).device
play (jump pins n) d = played (reply_of_jump (jump_answer d pins n)) (jump_answer d pins n).device
play (trace es) d = played (reply_of_run (trace_answer d es)) (trace_answer d es).device
play (look pins n) d = played (reply_of_look (look_answer d pins n)) d
play offer d = played (reply_of_offer (offer_answer d)) d
play take d = played (reply_of_take (take_answer d)) (take_answer d).device
play return d = played (reply_of (return_answer d)) (return_answer d).device
play (wake pins n) d = played (reply_of_look (wake_answer d pins n)) d

-- all answers to a list of calls, and the state at its end
pub record Ran : Type 0 where
  pub replies : List Reply
  pub device : Device

abbrev pub ran : List Reply → Device → Ran
ran rs d = record { replies = rs; device = d }

-- the machine on a list of calls, from any state: each call gets the state that the one before left
unfoldable pub run : List Call → Device → Ran
run [] d = ran [] d
run (c ∷ cs) d =
    let p = play c d in
    let r = run cs p.device in
    ran (p.reply ∷ r.replies) r.device

-- where a list starts: from what reset gives a kind, or (request Eight) from the values of a file
pub data Start : Type 0 where
  from_reset : ℕ → Start
  from_file : List ℕ → Start

unfoldable pub started : Start → Answer
started (from_reset kind) = reset_answer kind
started (from_file bytes) = load_answer bytes

-- the plain machine: its only inputs are where it starts and the list
unfoldable pub machine : Start → List Call → Ran
machine s cs = run cs (started s).device
