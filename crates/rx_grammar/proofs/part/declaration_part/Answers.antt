use Rattle.std.proofs.lemmas.Result.{err_from_is_err_and}
use Rattle.std.proofs.Common.{[]}
use Rattle.rx_grammar.specs.declared.part.Part.TheVariants as part
use Rattle.rx_grammar.specs.Part as parts
use Rattle.rx_grammar.proofs.Whole.{left_within}
use Rattle.rx_grammar.proofs.Parts.{part_stop, part_read}
use Rattle.rx_grammar.proofs.part.declaration_part.Goals as goal

pub returns-in_err-tree-clause-fault : goal.returns-in_err-tree-clause-fault
returns-in_err-tree-clause-fault c =
    let p = err_from_is_err_and c.from_residual.result c.from_residual.ensures.1 in
    rw (p.1, p.2) (part_stop _ _ _ (rw (c.start.ensures.tokens, c.start.ensures.limits) at c.in_err-tree.ensures))

pub next_index-requires-clause-left : goal.next_index-requires-clause-left
next_index-requires-clause-left c = left_within _ [] _ _ _ _ (rw (c.start.ensures.tokens, c.start.ensures.limits) at c.in_ok-tree.ensures)

pub returns-clause-part : goal.returns-clause-part
returns-clause-part c = part_read part.Declaration [] _ _ _ _ _ _ _ (rw (c.start.ensures.tokens, c.start.ensures.limits) at c.in_ok-tree.ensures) (λ xs h. parts.is_declaration h) c.next_index.ensures
