-- The answers of looks as numbers for C: a refused call gives its number and zeros.
use Rattle.std.specs.Prelude.{ℕ, Option, Result, Ok, Err}
use Rattle.machine.specs.declared.Device.{Device}
use Rattle.machine.specs.Answers.{LookAnswer, LookAnswer as Look}
use Rattle.machine.specs.Calls.{look_answer, wake_answer}
use Rattle.machine.specs.Outcomes.{found}
use Rattle.looked.specs.declared.LookedAnswer.{LookedAnswer}

-- What a look gives, its refusal as any number
abbrev pub look_numbered : Result (Option ℕ) ℕ → LookAnswer
look_numbered (Ok k) = found k
look_numbered (Err k) = Look.Refused k

-- Look ahead: 1 and the cycle, or 0 and 0
abbrev pub looked_of : LookAnswer → LookedAnswer
looked_of (Look.Refused k) = record { code = k; found = 0; at = 0 }
looked_of (Look.At n) = record { code = 0; found = 1; at = n }
looked_of Look.Nothing = record { code = 0; found = 0; at = 0 }

unfoldable pub looked_answer : Device → ℕ → ℕ → LookedAnswer
looked_answer d pins n = looked_of (look_answer d pins n)

-- Wake look: the same
unfoldable pub woken_answer : Device → ℕ → ℕ → LookedAnswer
woken_answer d pins n = looked_of (wake_answer d pins n)
