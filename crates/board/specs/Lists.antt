-- Document 02, request Three: a list of calls on the board, of either chip or of both, the answers to it and both chips at its end.
use Rattle.std.specs.Prelude.{ℕ, List, [], ◌∷◌, ◌++◌}
use Rattle.machine.specs.Lists.{Reply, says, listed_with}
use Rattle.machine.specs.Lists.Value.{numbers}
use Rattle.machine.specs.Lists as Chip
use Rattle.interval.specs.Interval.{reset_of}
use Rattle.interval.specs.Lists.{Played, played, Ran, run_by}
use Rattle.interval.specs.Lists as Timer
use Rattle.machine.specs.declared.Device.{Device}
use Rattle.interval.specs.declared.Interval.{Interval}
use Rattle.board.specs.declared.Board.{Board}
use Rattle.board.specs.Answers.{BoardCycleAnswer, BoardJumpAnswer}
use Rattle.board.specs.Board.{cycle_answer, jump_answer}

-- a call of the chip, one of the 82C53, and a cycle or a jump of both
pub data Call : Type 0 where
  chip : Chip.Call → Call
  timer : Timer.Call → Call
  cycle : ℕ → ℕ → Call
  jump : ℕ → ℕ → ℕ → Call

abbrev pub board : Device → Interval → Board
board d i = record { device = d; interval = i }

-- a cycle answers the line and the outputs; a jump what the chip's jump answers, and then the outputs
abbrev pub reply_of_cycle : BoardCycleAnswer → Reply
reply_of_cycle a = says a.code (numbers (a.line ∷ a.outputs ∷ []))

abbrev pub reply_of_jump : BoardJumpAnswer → Reply
reply_of_jump a = says a.code (numbers (listed_with a.totals a.rounds ++ a.outputs ∷ []))

-- one call: a chip's own calls leave the other chip as it is
unfoldable pub play : Call → Board → Played Board
play (Call.chip c) b =
    let p = Chip.play c b.device in
    played p.reply (board p.device b.interval)
play (Call.timer c) b =
    let p = Timer.play c b.interval in
    played p.reply (board b.device p.state)
play (Call.cycle pins gates) b = played (reply_of_cycle (cycle_answer b pins gates)) (cycle_answer b pins gates).board
play (Call.jump pins gates n) b = played (reply_of_jump (jump_answer b pins gates n)) (jump_answer b pins gates n).board

-- a list of calls from any board
abbrev pub run : List Call → Board → Ran Board
run cs b = run_by play cs b

-- the plain board: it starts with what reset gives both chips, or of the chip with the values of a file, and its only inputs are where
-- the chip starts and the list
unfoldable pub machine : Chip.Start → List Call → Ran Board
machine start cs = run cs (board (Chip.started start).device reset_of)
