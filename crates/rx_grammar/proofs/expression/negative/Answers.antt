use Rattle.rx_grammar.proofs.Nodes.{negative_node}
use Rattle.rx_grammar.proofs.expression.negative.Goals as goal

pub returns-clause-tree : goal.returns-clause-tree
returns-clause-tree c = negative_node c.in_ok-new.field-0 c.in_ok-new.ensures.ok
