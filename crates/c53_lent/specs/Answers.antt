-- What C is given as numbers: the record check, 1 where the record is accepted, and an outcome of a pulse or a jump.
use Rattle.std.specs.Prelude.{ℕ, cond, Result, Ok, Err}
use Rattle.machine.specs.declared.refusals.Refusal.{Refusal}
use Rattle.machine.specs.Outcomes.{number}
use Rattle.interval.specs.declared.Interval.{Interval}
use Rattle.interval.specs.Interval.{accepted}
use Rattle.c53_lent.specs.declared.OutputsAnswer.{OutputsAnswer}

unfoldable pub accepts_answer : Interval → ℕ
accepts_answer c = cond (accepted c) 1 0

abbrev pub outputs_answer : Result ℕ Refusal → OutputsAnswer
outputs_answer (Ok outputs) = record { code = 0; outputs = outputs }
outputs_answer (Err e) = record { code = number e; outputs = 0 }
