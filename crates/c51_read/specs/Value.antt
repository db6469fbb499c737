-- A read's answer as numbers for C: a refused call gives its number and 0.
use Rattle.std.specs.Prelude.{ℕ}
use Rattle.machine.specs.declared.Device.{Device}
use Rattle.machine.specs.Answers.{ReadAnswer, ReadAnswer as Read}
use Rattle.machine.specs.Calls.{read_answer}
use Rattle.c51_read.specs.declared.ValueAnswer.{ValueAnswer}

abbrev pub value_of : ReadAnswer → ValueAnswer
value_of (Read.Refused k) = record { code = k; value = 0 }
value_of (Read.Value v) = record { code = 0; value = v }

unfoldable pub value_answer : Device → ℕ → ValueAnswer
value_answer d address = value_of (read_answer d address)
