use Rattle.std.proofs.Common.{false, refl}
use Rattle.rx_graph.specs.declared.message.Message.{Message}
use Rattle.rx_graph.specs.Graph.{graph_of}
use Rattle.rx_graph.proofs.tests.message.Goals as goal

pub returns-clause-acyclic : goal.returns-clause-acyclic
returns-clause-acyclic c =
    let m : Message = record { «package» = c.in_ok-package.package; name = c.in_ok-name.name; fields = c.new.result; links = c.in_ok-links.links; low_order = false } in
    c.in_ok-links.ensures.acyclic (graph_of m) refl
