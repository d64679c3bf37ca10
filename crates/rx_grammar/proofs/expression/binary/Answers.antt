use Rattle.rx_grammar.proofs.Nodes.{binary_node}
use Rattle.rx_grammar.proofs.expression.binary.Goals as goal

pub returns-clause-tree : goal.returns-clause-tree
returns-clause-tree c = binary_node c.in_ok-new.field-0 c.in_ok-new-2.field-0 c.operator_of.ensures c.in_ok-new.ensures.ok c.in_ok-new-2.ensures.ok
