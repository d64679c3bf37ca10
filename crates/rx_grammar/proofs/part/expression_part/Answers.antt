use Rattle.std.proofs.Common.{arith}
use Rattle.rx_grammar.proofs.Parts.{expression_read}
use Rattle.rx_grammar.proofs.part.expression_part.Goals as goal

pub index_behind-requires : goal.index_behind-requires
index_behind-requires c = let w = c.in_ok-tree.ensures.found.within in omega arith

pub returns-clause-part : goal.returns-clause-part
returns-clause-part c = expression_read _ _ _ _ _ c.in_ok-tree.ensures.found c.index_behind.ensures
