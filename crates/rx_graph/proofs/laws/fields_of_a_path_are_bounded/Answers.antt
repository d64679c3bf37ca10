use Rattle.rx_graph.specs.Graph.{domains_of, graph_of}
use Rattle.rx_graph.proofs.Bounded.{stays_within}
use Rattle.rx_graph.proofs.laws.fields_of_a_path_are_bounded.Goals as goal

pub returns : goal.returns
returns c =
    λ total path fields end h. stays_within (domains_of c.args.spec.now) (graph_of c.args.message.now) c.requires total path fields end h
