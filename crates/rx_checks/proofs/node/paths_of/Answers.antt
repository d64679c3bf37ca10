use Rattle.std.proofs.Common.{sym, ap, subst, length, arith}
use Rattle.rx_forms.proofs.Few.{few_paths}
use Rattle.rx_graph.specs.Cycles.{HasNoCycle, HasPathsUpTo}
use Rattle.rx_graph.specs.Graph.{Graph, graph_of}
use Rattle.rx_graph.proofs.Ways.{length-arrows}
use Rattle.rx_checks.proofs.Kept.{few_or_many}
use Rattle.rx_checks.proofs.node.paths_of.Goals as goal

pub paths_to-requires-clause-acyclic : goal.paths_to-requires-clause-acyclic
paths_to-requires-clause-acyclic c = subst (λ (g : Graph). HasNoCycle g) (sym c.message-graph.ensures.graph) c.is_known.ensures.elaborated.acyclic

pub paths_to-requires-clause-few : goal.paths_to-requires-clause-few
paths_to-requires-clause-few c =
    omega (arith, length-arrows c.message-graph.result.now.links.items, ap (λ (g : Graph). length g.links) c.message-graph.ensures.graph, c.is_known.ensures.elaborated.few_links)

pub unreachable-requires : goal.unreachable-requires
unreachable-requires c =
    let node = c.args.node in
    let few = few_paths c.args.message.now.domains c.args.message.now.graph c.is_known.ensures.elaborated node in
    few_or_many (graph_of c.message-graph.result.now) node 4096 c.paths_make_one_list.ensures
    (subst (λ (g : Graph). HasPathsUpTo g node 4096) (sym c.message-graph.ensures.graph) few)
    (c.in-Err-TooManyPaths.ensures.many c.in-Err-TooManyPaths.field-0-is)
