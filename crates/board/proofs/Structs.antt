-- The board as a struct that is lent.
use Rattle.board.specs.contracts.Board as Board
use Rattle.board.proofs.Board.TheLaws as Board'
use Rattle.lent.proofs.Lent.{Struct}

abbrev pub board : Struct
board = record { type = Board.the_type; laws = Board'.the_laws; plains = Board'.the_plain }
