use Rattle.rx_graph.specs.Graph.{domains_of, graph_of}
use Rattle.rx_graph.proofs.Stops.{stuck}
use Rattle.rx_graph.proofs.laws.reason_makes_the_longest_path.Goals as goal

pub returns : goal.returns
returns c =
    λ read total path fields end reason field part reads why. stuck (domains_of c.args.spec.now) (graph_of c.args.message.now) read c.requires total path fields end part reads reason field why
