use Rattle.std.proofs.Common.{sym, ◌∙◌, inr, arith}
use Rattle.rx_syntax.proofs.Runs.{run_within}
use Rattle.rx_syntax.specs.Bytes.{is_line_byte}
use Rattle.rx_syntax.proofs.Pieces.{white_read, comment_len, comment_read, mark_read, no_piece}
use Rattle.rx_syntax.proofs.piece.first_piece.Goals as goal

pub returns-then-is_white-clause-piece : goal.returns-then-is_white-clause-piece
returns-then-is_white-clause-piece c = white_read _ c.requires.some (sym c.is_white.ensures ∙ c.if-is_white.true)

pub returns-then-begins_comment-clause-piece : goal.returns-then-begins_comment-clause-piece
returns-then-begins_comment-clause-piece c = rw c.line_len.ensures (comment_read c.args.text.now (sym c.begins_comment.ensures ∙ c.if-begins_comment.true))

pub returns-then-begins_comment-clause-within : goal.returns-then-begins_comment-clause-within
returns-then-begins_comment-clause-within c =
    let two = comment_len c.args.text.now (sym c.begins_comment.ensures ∙ c.if-begins_comment.true) in
    let most = run_within is_line_byte c.args.text.now in
    let len = c.line_len.ensures in
    (omega arith, omega arith)

pub returns-in-Some-clause-piece : goal.returns-in-Some-clause-piece
returns-in-Some-clause-piece c =
    let found = c.in-Some.ensures.some in
    rw c.text.ensures (mark_read _ c.in-Some.mark found.0 found.1 found.2 (sym c.begins_comment.ensures ∙ c.if-begins_comment.false))

pub returns-in-None-clause-fault : goal.returns-in-None-clause-fault
returns-in-None-clause-fault c = inr (no_piece _ _ c.requires.some (sym c.is_white.ensures ∙ c.if-is_white.false) (sym c.is_letter.ensures ∙ c.if-is_letter.false) (sym c.is_digit.ensures ∙ c.if-is_digit.false) c.in-None.ensures.none)
