use Rattle.std.proofs.Common.{sym, ◌∙◌, inr}
use Rattle.rx_syntax.proofs.Pieces.{word_run, word_read, no_name, word_is_ascii}
use Rattle.rx_syntax.proofs.piece.word_piece.Goals as goal

pub returns-then-not-is_name-clause-fault : goal.returns-then-not-is_name-clause-fault
returns-then-not-is_name-clause-fault c = inr (no_name _ _ c.requires.letter c.word_len-len.ensures _ (sym c.is_name.ensures ∙ c.if-not-is_name.true))

pub from_bytes-requires : goal.from_bytes-requires
from_bytes-requires c = word_is_ascii _ (word_run c.args.text.now _ c.requires.letter c.word_len-len.ensures).all

pub returns-clause-piece : goal.returns-clause-piece
returns-clause-piece c = rw c.in_ok-from_bytes.ensures (word_read _ _ c.requires.letter c.word_len-len.ensures (sym c.is_name.ensures ∙ c.if-not-is_name.false))
