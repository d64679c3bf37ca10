use Rattle.rx_types.specs.Environment.{placed}
use Rattle.rx_graph.specs.Graph.{arrow_of, domains_of, graph_of}
use Rattle.message_trials.proofs.Counting.{arrow_of_items}
use Rattle.message_trials.proofs.Going.{goes_on}
use Rattle.message_trials.proofs.followed.+go_on.Goals as goal

pub returns : goal.returns
returns t c =
    goes_on (domains_of c.args.spec.now) (graph_of c.args.message.now) c.args.env c.in_ok-env.env c.args.at c.in-Some.index.now (arrow_of c.in_ok-link.link.now) (placed c.in_ok-entry.entry) c.in-Some.path.now c.args.path.now
    (arrow_of_items c.args.message.now.links.items c.deref.result.now c.in-Some.index.now c.in_ok-link.link.now c.deref.ensures.value c.in_ok-link.ensures.lookup.0 c.in_ok-link.ensures.lookup.1) (c.is_same.ensures.same.0 c.if-not-is_same.false) c.in_ok-entry.ensures c.in_ok-env.ensures c.in-Some.ensures.cases.0 c.go_on.result c.go_on.ensures
