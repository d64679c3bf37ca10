use Rattle.rx_graph.specs.Graph.{graph_of}
use Rattle.rx_graph.proofs.OneList.{one_list}
use Rattle.rx_graph.proofs.laws.paths_make_one_list.Goals as goal

pub returns : goal.returns
returns c = λ end ps qs a b. one_list (graph_of c.args.message.now) end ps qs a b
