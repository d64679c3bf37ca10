use Rattle.std.proofs.Common.{map}
use Rattle.rx_graph.specs.Graph.{graph_of}
use Rattle.rx_elab.specs.Types.{types_of}
use Rattle.rx_elab.proofs.Through.{Going}
use Rattle.rx_spec.specs.Messages.{declaration_meant}
use Rattle.rx_spec.proofs.packages.package_messages.Given as goal

abbrev pub invariant-loop-decl : goal.invariant-loop-decl
invariant-loop-decl l = Going (declaration_meant (types_of l.types) l.«package».header) (map graph_of l.initial.messages.items) l.«package».decls.items l.decl-index (map graph_of l.messages.items)
