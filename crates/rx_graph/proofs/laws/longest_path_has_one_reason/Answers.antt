use Rattle.rx_graph.specs.Graph.{domains_of, graph_of}
use Rattle.rx_graph.proofs.OneReason.{one_reason}
use Rattle.rx_graph.proofs.laws.longest_path_has_one_reason.Goals as goal

pub returns : goal.returns
returns c =
    λ read total reason other field more a b. one_reason (domains_of c.args.spec.now) (graph_of c.args.message.now) read c.requires total reason other field more a b
