use Rattle.rx_graph.specs.Graph.{domains_in, graph_of}
use Rattle.rx_context.proofs.Spans.{stands_for}
use Rattle.rx_context.proofs.making.kept_of.Goals as goal

pub returns : goal.returns
returns c =
    stands_for (domains_in c.args.scalars.now) (graph_of c.args.message.now) (record { kinds = c.in_ok-kinds.kinds.items; spans = c.in_ok-spans.spans.items; message = c.in_ok-message.message }) c.requires c.in_ok-message.ensures c.in_ok-kinds.ensures c.in_ok-spans.ensures
