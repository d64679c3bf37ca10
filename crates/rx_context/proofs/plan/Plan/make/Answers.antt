use Rattle.rx_graph.specs.Graph.{domains_in, graph_of}
use Rattle.rx_context.proofs.plan.Plan.make.Goals as goal

pub invariant_of-result : goal.invariant_of-result
invariant_of-result c = (domains_in c.as_slice.result.now, graph_of c.args.message.now, c.in_ok-kept.ensures)
