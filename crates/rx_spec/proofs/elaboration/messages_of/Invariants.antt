use Rattle.std.proofs.Common.{map, []}
use Rattle.rx_graph.specs.Graph.{graph_of}
use Rattle.rx_elab.specs.Types.{types_of}
use Rattle.rx_spec.specs.Elaboration.{package_messages_in}
use Rattle.rx_spec.proofs.Passing.{Passing}
use Rattle.rx_spec.proofs.elaboration.messages_of.Given as goal

abbrev pub invariant-loop-index : goal.invariant-loop-index
invariant-loop-index l = Passing (package_messages_in (types_of l.types)) [] l.packages l.index (map graph_of l.messages.items)
