use Rattle.rx_grammar.proofs.Nodes.{negation_node}
use Rattle.rx_grammar.proofs.expression.negation.Goals as goal

pub returns-clause-tree : goal.returns-clause-tree
returns-clause-tree c = negation_node c.in_ok-new.field-0 c.in_ok-new.ensures.ok
