use Rattle.std.proofs.Common.{◌∙◌, ap, ◌++◌, List}
use Rattle.std.proofs.lemmas.Result.{on_ok_weaker}
use Rattle.rx_graph.specs.declared.message.Field.{Field}
use Rattle.rx_layout.specs.Listed.{reached_from}
use Rattle.rx_layout.proofs.Checking.{four_added}
use Rattle.rx_layout.proofs.checklist.add_all.Goals as goal

pub returns : goal.returns
returns c =
    let domains = c.args.message.now.domains in
    let m = c.args.message.now.graph in
    let goals = c.add_checks.new.goals.items in
    on_ok_weaker c.add_places.result (λ h.
    four_added c.args.goals.now.items _ _ (reached_from domains m 0 c.args.message.now.graph.fields) _ c.add_pairs.new.goals.items goals c.add_reached.new.goals.items _
    (c.in_ok-add_pairs.ensures domains) c.in_ok-add_checks.ensures
    (c.in_ok-add_reached.ensures domains m ∙ ap (λ (fs : List Field). goals ++ reached_from domains m 0 fs) c.fields.ensures.fields) h)
    c.add_places.ensures
