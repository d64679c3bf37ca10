-- What is made of the message is elaborated.
use Rattle.rx_graph.specs.Graph.{graph_of}
use Rattle.rx_spec.proofs.messages.message_of.Goals as goal

pub within_limit-requires-clause-elaborated : goal.within_limit-requires-clause-elaborated
within_limit-requires-clause-elaborated c = c.requires.elaborated (graph_of c.in_ok-made.made) c.in_ok-made.ensures.meaning
