use Rattle.rx_graph.specs.Graph.{domains_of, graph_of}
use Rattle.rx_graph.proofs.Unique.{one_path}
use Rattle.rx_graph.proofs.OneFit.{one_fit}
use Rattle.rx_graph.proofs.laws.one_path_fits.Goals as goal

pub returns-clause-path : goal.returns-clause-path
returns-clause-path c = one_path (domains_of c.args.spec.now) (graph_of c.args.message.now) c.requires

pub returns-clause-valuation : goal.returns-clause-valuation
returns-clause-valuation c =
    λ values total path other fields more f g. one_fit (domains_of c.args.spec.now) (graph_of c.args.message.now) values c.requires total path other fields more f g
