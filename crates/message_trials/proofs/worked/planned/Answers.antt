use Rattle.std.proofs.lemmas.Result.{IfOk-weaker}
use Rattle.rx_graph.specs.Graph.{graph_of, domains_of}
use Rattle.message_trials.proofs.worked.planned.Goals as goal

pub returns : goal.returns
returns c = IfOk-weaker c.plan_of.result _ _ (λ p stands. (domains_of c.in_ok-spec.spec, graph_of c.in_ok-message.message.now, stands)) c.plan_of.ensures
