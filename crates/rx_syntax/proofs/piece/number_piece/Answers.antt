use Rattle.rx_syntax.proofs.Pieces.{number_read, no_number}
use Rattle.rx_syntax.proofs.piece.number_piece.Goals as goal

pub returns-in_default-clause-fault : goal.returns-in_default-clause-fault
returns-in_default-clause-fault c = no_number _ _ c.requires.digit c.number_len-len.ensures _ c.in_default.ensures.none

pub returns-clause-piece : goal.returns-clause-piece
returns-clause-piece c = number_read _ _ c.requires.digit c.number_len-len.ensures _ c.in-Some.ensures.some
