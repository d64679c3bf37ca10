use Rattle.std.proofs.Common.{subst, List, length, ◌<◌}
use Rattle.rx_graph.specs.declared.message.Field.{Field}
use Rattle.rx_layout.specs.Listed.{links_at, checks_from}
use Rattle.rx_layout.proofs.Checking.{node_added}
use Rattle.rx_layout.proofs.checklist.add_checks.Goals as goal

pub loop-field-preserved : goal.loop-field-preserved
loop-field-preserved c =
    let domains = c.args.message.now.domains in
    let m = c.args.message.now.graph in
    node_added domains m (λ node. checks_from domains m c.args.check node 1 (links_at m node)) c.args.message.now.graph.fields c.loop-field.field c.loop-field.goals.items _ _ (subst (λ (fs : List Field). c.loop-field.field < length fs) c.fields-field-end.ensures.fields c.loop-field-test.true) c.in_ok-add_checks_at-2.ensures c.loop-field.invariant
