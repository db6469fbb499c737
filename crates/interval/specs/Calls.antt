-- Document 02, request Three, the calls of the 82C53: the answer of each and the chip after it. Refusals are judged in the order of their
-- numbers, but 12 before 11; a refused call leaves the chip as given. 1 is for a field outside its range, 4 for a gate byte above 7, 5 for
-- more than 2^40 pulses.
use Rattle.std.specs.Prelude.{ℕ, cond, eqb, leb, ltb}
use Rattle.machine.specs.Calls.{unless, longest}
use Rattle.interval.specs.declared.Interval.{Interval}
use Rattle.interval.specs.Answers.{CounterAnswer, WriteAnswer, ReadAnswer, PulseAnswer}
use Rattle.interval.specs.Counter.{choice_in, control, write_byte, read_byte}
use Rattle.interval.specs.Interval.{accepted, counter_at, put_at, outputs, gates_ok, pulse_all, pulses_all}

-- Write: a byte of a count at addresses 0 to 2, the control word at 3

abbrev pub refuse_write : ℕ → Interval → WriteAnswer
refuse_write n c = record { code = n; interval = c }

-- a counter's answer, put in its place; where it is refused, the chip as given
unfoldable pub answered : ℕ → CounterAnswer → Interval → WriteAnswer
answered i r c = unless (eqb r.code 0) (refuse_write r.code c) (record { code = 0; interval = put_at i r.counter c })

-- a control word: 12 for counter choice 3, before 11 for another mode
unfoldable pub control_answer : ℕ → Interval → WriteAnswer
control_answer word c =
    unless (ltb (choice_in word) 3) (refuse_write 12 c)
    (answered (choice_in word) (control word (counter_at (choice_in word) c)) c)

-- 12 for an address above 3
unfoldable pub write_answer : Interval → ℕ → ℕ → WriteAnswer
write_answer c address byte =
    unless (accepted c) (refuse_write 1 c)
    (unless (leb address 3) (refuse_write 12 c)
    (cond (eqb address 3) (control_answer byte c)
    (answered address (write_byte byte (counter_at address c)) c)))

-- Read: a byte of a count at addresses 0 to 2; 12 at 3 and above

abbrev pub refuse_read : ℕ → Interval → ReadAnswer
refuse_read n c = record { code = n; value = 0; interval = c }

unfoldable pub read_answer : Interval → ℕ → ReadAnswer
read_answer c address =
    let byte = read_byte (counter_at address c) in
    unless (accepted c) (refuse_read 1 c)
    (unless (ltb address 3) (refuse_read 12 c)
    (record { code = 0; value = byte.value; interval = put_at address byte.counter c }))

-- Pulse, and a jump of n pulses: they answer the outputs as they leave them

abbrev pub refuse_pulse : ℕ → Interval → PulseAnswer
refuse_pulse n c = record { code = n; outputs = 0; interval = c }

abbrev pub passed_pulse : Interval → PulseAnswer
passed_pulse c = record { code = 0; outputs = outputs c; interval = c }

unfoldable pub pulse_answer : Interval → ℕ → PulseAnswer
pulse_answer c gates =
    unless (accepted c) (refuse_pulse 1 c)
    (unless (gates_ok gates) (refuse_pulse 4 c)
    (passed_pulse (pulse_all gates c)))

unfoldable pub jump_answer : Interval → ℕ → ℕ → PulseAnswer
jump_answer c gates n =
    unless (accepted c) (refuse_pulse 1 c)
    (unless (gates_ok gates) (refuse_pulse 4 c)
    (unless (leb n longest) (refuse_pulse 5 c)
    (passed_pulse (pulses_all n gates c))))
