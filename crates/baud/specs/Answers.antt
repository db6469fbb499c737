-- What the speed finder answers, as request Four writes it down, and how an outcome of the code, a Result, is written down so.
use Rattle.std.specs.Prelude.{ℕ, Option, Some, None, Result, Ok, Err}
use Rattle.machine.specs.declared.refusals.Refusal.{Refusal}
use Rattle.machine.specs.Outcomes.{number}
use Rattle.baud.specs.declared.Setting.{Setting}

-- the refusal's number; SMOD and TH1, with the rate that they achieve in whole bits a second; or that there are none
pub data SpeedAnswer : Type 0 where
  Refused : ℕ → SpeedAnswer
  Found : ℕ → ℕ → ℕ → SpeedAnswer
  Nothing : SpeedAnswer

abbrev pub speed_answered : Result (Option Setting) Refusal → SpeedAnswer
speed_answered (Ok (Some s)) = Found s.smod s.th1 s.achieved
speed_answered (Ok None) = Nothing
speed_answered (Err e) = Refused (number e)
