use Rattle.rx_graph.specs.Graph.{domains_of, graph_of}
use Rattle.rx_graph.proofs.Stops.{none_fits}
use Rattle.rx_graph.proofs.laws.no_path_fits_where_stuck.Goals as goal

pub returns : goal.returns
returns c =
    λ read total reason field path fields s w r. none_fits (domains_of c.args.spec.now) (graph_of c.args.message.now) read c.requires total reason field s path fields w r
