-- How an outcome of the code, a Result, is written down, as Outcomes of `machine` says it of the chip's calls.
use Rattle.std.specs.Prelude.{Result, Ok, Err}
use Rattle.machine.specs.declared.refusals.Refusal.{Refusal}
use Rattle.machine.specs.Outcomes.{number}
use Rattle.board.specs.declared.Board.{Board}
use Rattle.board.specs.declared.BoardCycled.{BoardCycled}
use Rattle.board.specs.declared.BoardJumped.{BoardJumped}
use Rattle.board.specs.Answers.{BoardCycleAnswer, BoardJumpAnswer}
use Rattle.board.specs.Board.{refuse_cycle, refuse_jump}

abbrev pub cycle_answered : Result BoardCycled Refusal → Board → BoardCycleAnswer
cycle_answered (Ok c) b = record { code = 0; line = c.line; outputs = c.outputs; board = b }
cycle_answered (Err e) b = refuse_cycle (number e) b

abbrev pub jump_answered : Result BoardJumped Refusal → Board → BoardJumpAnswer
jump_answered (Ok j) b = record { code = 0; outputs = j.outputs; totals = j.totals; rounds = j.rounds; board = b }
jump_answered (Err e) b = refuse_jump (number e) b
