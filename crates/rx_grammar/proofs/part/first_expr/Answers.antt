use Rattle.std.proofs.lemmas.Result.{err_from_is_err_and}
use Rattle.std.proofs.Common.{◌≡◌, ◌+◌, ◌-◌, ℕ, arith}
use Rattle.rx_grammar.specs.Grammar.{expr_more}
use Rattle.rx_grammar.proofs.Whole.{alone_of, left_within}
use Rattle.rx_grammar.proofs.Parts.{expr_read}
use Rattle.rx_grammar.proofs.part.first_expr.Goals as goal

pub returns-in_err-tree-clause-fault : goal.returns-in_err-tree-clause-fault
returns-in_err-tree-clause-fault c =
    let p = err_from_is_err_and c.from_residual.result c.from_residual.ensures.1 in
    rw (p.1, p.2) (alone_of _ expr_more _ _ (rw (c.start.ensures.tokens, c.start.ensures.limits) at c.in_err-tree.ensures))

pub next_index-requires-clause-left : goal.next_index-requires-clause-left
next_index-requires-clause-left c = left_within _ expr_more _ _ _ _ (rw (c.start.ensures.tokens, c.start.ensures.limits) at c.in_ok-tree.ensures)

pub returns-clause-found : goal.returns-clause-found
returns-clause-found c =
    let r = c.next_index.ensures in
    expr_read expr_more _ _ _ _ _ (rw (c.start.ensures.tokens, c.start.ensures.limits) at c.in_ok-tree.ensures) (omega arith)
