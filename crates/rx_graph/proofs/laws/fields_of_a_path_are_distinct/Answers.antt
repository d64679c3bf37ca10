use Rattle.std.proofs.Common.{[]}
use Rattle.rx_graph.specs.declared.message.Node.TheVariants.{Start}
use Rattle.rx_graph.specs.Graph.{domains_of, graph_of}
use Rattle.rx_graph.proofs.Distinct.{distinct}
use Rattle.rx_graph.proofs.Bounded.{few_fields}
use Rattle.rx_graph.proofs.laws.fields_of_a_path_are_distinct.Goals as goal

pub returns : goal.returns
returns c =
    λ total path fields end h. (distinct (domains_of c.args.spec.now) (graph_of c.args.message.now) total c.requires.acyclic [] Start path fields end h.leads, few_fields (domains_of c.args.spec.now) (graph_of c.args.message.now) c.requires total path fields end h.leads)
