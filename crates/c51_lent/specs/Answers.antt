-- The record check and the speed finder's answer as numbers for C: a refused call gives its number and zeros.
use Rattle.std.specs.Prelude.{ℕ, cond}
use Rattle.machine.specs.declared.Device.{Device}
use Rattle.machine.specs.Record.{accepted}
use Rattle.baud.specs.Answers.{SpeedAnswer, SpeedAnswer as Speed}
use Rattle.baud.specs.Speed.{speed}
use Rattle.c51_lent.specs.declared.FoundAnswer.{FoundAnswer}

-- The record check: 1 where the record is accepted
unfoldable pub accepts_answer : Device → ℕ
accepts_answer d = cond (accepted d) 1 0

-- The speed finder: 1, the pair and its rate, or zeros
abbrev pub found_of : SpeedAnswer → FoundAnswer
found_of (Speed.Refused k) = record { code = k; pair = 0; smod = 0; th1 = 0; achieved = 0 }
found_of (Speed.Found smod th1 n) = record { code = 0; pair = 1; smod = smod; th1 = th1; achieved = n }
found_of Speed.Nothing = record { code = 0; pair = 0; smod = 0; th1 = 0; achieved = 0 }

unfoldable pub found_answer : ℕ → ℕ → ℕ → FoundAnswer
found_answer crystal rate tolerance = found_of (speed crystal rate tolerance)
