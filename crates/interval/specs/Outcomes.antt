-- How an outcome of the code, a Result, is written down: as document 02 has it, 0 and what the call gives, or the refusal's number and 0;
-- and the chip. The public calls promise that what they give, so written, is the plain 82C53's answer.
use Rattle.std.specs.Prelude.{ℕ, Result, Ok, Err}
use Rattle.machine.specs.declared.refusals.Refusal.{Refusal}
use Rattle.machine.specs.Outcomes.{number, code_of}
use Rattle.interval.specs.declared.Counter.{Counter}
use Rattle.interval.specs.declared.Interval.{Interval}
use Rattle.interval.specs.Answers.{CounterAnswer, WriteAnswer, ReadAnswer, PulseAnswer}
use Rattle.interval.specs.Counter.{passed, refuse}
use Rattle.interval.specs.Calls.{refuse_read, refuse_pulse}

-- a control word or a written byte gives the counter; a refused one leaves it as it was
abbrev pub counter_answered : Result Counter Refusal → Counter → CounterAnswer
counter_answered (Ok after) k = passed after
counter_answered (Err e) k = refuse (number e) k

-- a write, which gives nothing, and the chip that it leaves
abbrev pub write_answered : Result (Unit {0}) Refusal → Interval → WriteAnswer
write_answered r c = record { code = code_of r; interval = c }

-- a read gives the byte
abbrev pub read_answered : Result ℕ Refusal → Interval → ReadAnswer
read_answered (Ok value) c = record { code = 0; value = value; interval = c }
read_answered (Err e) c = refuse_read (number e) c

-- a pulse and a jump give the outputs
abbrev pub pulse_answered : Result ℕ Refusal → Interval → PulseAnswer
pulse_answered (Ok outputs) c = record { code = 0; outputs = outputs; interval = c }
pulse_answered (Err e) c = refuse_pulse (number e) c
