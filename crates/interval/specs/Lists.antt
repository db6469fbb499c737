-- Document 02, request Three: the calls of the 82C53 in a list, and what each answers. A list of any calls on any state is run here once,
-- for the 82C53 and for the board.
use Rattle.std.specs.Prelude.{ℕ, List, [], ◌∷◌}
use Rattle.machine.specs.Lists.{Reply, says, nothing, number}
use Rattle.interval.specs.declared.Interval.{Interval}
use Rattle.interval.specs.Answers.{WriteAnswer, ReadAnswer, PulseAnswer}
use Rattle.interval.specs.Interval.{reset_of}
use Rattle.interval.specs.Calls.{write_answer, read_answer, pulse_answer, jump_answer}

-- a call with its arguments other than the chip
pub data Call : Type 0 where
  reset : Call
  write : ℕ → ℕ → Call
  read : ℕ → Call
  pulse : ℕ → Call
  jump : ℕ → ℕ → Call

-- each answer's number and value
abbrev pub reply_of_write : WriteAnswer → Reply
reply_of_write a = says a.code nothing

abbrev pub reply_of_read : ReadAnswer → Reply
reply_of_read a = says a.code (number a.value)

abbrev pub reply_of_pulse : PulseAnswer → Reply
reply_of_pulse a = says a.code (number a.outputs)

-- a call's reply and the state after it
pub record Played (S : Type 0) : Type 0 where
  pub reply : Reply
  pub state : S

abbrev pub played : {S : Type 0} → Reply → S → Played S
played r s = record { reply = r; state = s }

-- one call
unfoldable pub play : Call → Interval → Played Interval
play Call.reset c = played (says 0 nothing) reset_of
play (Call.write address byte) c = played (reply_of_write (write_answer c address byte)) (write_answer c address byte).interval
play (Call.read address) c = played (reply_of_read (read_answer c address)) (read_answer c address).interval
play (Call.pulse gates) c = played (reply_of_pulse (pulse_answer c gates)) (pulse_answer c gates).interval
play (Call.jump gates n) c = played (reply_of_pulse (jump_answer c gates n)) (jump_answer c gates n).interval

-- all answers to a list of calls, and the state at its end
pub record Ran (S : Type 0) : Type 0 where
  pub replies : List Reply
  pub state : S

abbrev pub ran : {S : Type 0} → List Reply → S → Ran S
ran rs s = record { replies = rs; state = s }

-- each call gets the state that the one before left
unfoldable pub run_by : {C S : Type 0} → (C → S → Played S) → List C → S → Ran S
run_by plays [] s = ran [] s
run_by plays (c ∷ cs) s =
    let p = plays c s in
    let r = run_by plays cs p.state in
    ran (p.reply ∷ r.replies) r.state
