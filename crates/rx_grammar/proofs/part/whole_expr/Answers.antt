use Rattle.rx_grammar.proofs.Parts.{not_whole, whole_is, no_sentence_there, not_too_deep}
use Rattle.rx_grammar.proofs.part.whole_expr.Goals as goal

pub unreachable-requires : goal.unreachable-requires
unreachable-requires c = not_too_deep _ _ _ c.requires (rw c.in-Err-TooDeep.field-0-is at c.in-Err-TooDeep.ensures.fault)

pub returns-else-len-items-clause-none : goal.returns-else-len-items-clause-none
returns-else-len-items-clause-none c = not_whole _ _ _ c.in-Ok.ensures.found c.if-len-items.false

pub returns-in-Err-Expected-clause-none : goal.returns-in-Err-Expected-clause-none
returns-in-Err-Expected-clause-none c = no_sentence_there _ _ _ (rw c.in-Err-Expected.field-0-is at c.in-Err-Expected.ensures.fault)
