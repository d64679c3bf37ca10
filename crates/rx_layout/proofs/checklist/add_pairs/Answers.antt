use Rattle.std.proofs.Common.{subst, List, length, ◌<◌}
use Rattle.rx_graph.specs.declared.message.Field.{Field}
use Rattle.rx_layout.specs.Listed.{links_at, pairs_from}
use Rattle.rx_layout.proofs.Checking.{node_added}
use Rattle.rx_layout.proofs.checklist.add_pairs.Goals as goal

pub loop-field-preserved : goal.loop-field-preserved
loop-field-preserved c = λ domains.
    let m = c.args.message.now.graph in
    node_added domains m (λ node. pairs_from domains m node 1 (links_at m node)) c.args.message.now.graph.fields c.loop-field.field c.loop-field.goals.items _ _ (subst (λ (fs : List Field). c.loop-field.field < length fs) c.fields-field-end.ensures.fields c.loop-field-test.true) (c.in_ok-add_pairs_at-2.ensures domains m) (c.loop-field.invariant domains)
