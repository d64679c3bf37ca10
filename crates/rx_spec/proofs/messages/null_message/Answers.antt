-- A null message is elaborated.
use Rattle.rx_graph.specs.Graph.{graph_of}
use Rattle.rx_elab.specs.Types.{types_of}
use Rattle.rx_spec.specs.Limit.{domains_known}
use Rattle.rx_spec.proofs.Elaborating.{nothing_elaborated}
use Rattle.rx_spec.proofs.messages.null_message.Goals as goal

pub within_limit-requires-clause-elaborated : goal.within_limit-requires-clause-elaborated
within_limit-requires-clause-elaborated c = nothing_elaborated (domains_known (types_of c.args.types.now)) c.args.header.now c.args.name.now (graph_of c.in_ok-made.made) c.in_ok-made.ensures.meaning
