use Rattle.std.proofs.Common.{sym, ap, ◌∙◌}
use Rattle.rx_graph.specs.Stuck.{field_of}
use Rattle.rx_draft.specs.Drafts.{end_node}
use Rattle.rx_draft.proofs.Ends.{node_at}
use Rattle.rx_draft.proofs.draft.Draft.last.Goals as goal

pub returns-in-Some : goal.returns-in-Some
returns-in-Some c =
    sym (ap field_of (node_at c.entries.result.now c.in-Some.entry.now (sym c.in-Some.ensures.value))) ∙ ap (λ l. field_of (end_node l)) c.entries.ensures.entries ∙ ap (λ d. field_of (end_node d.fields)) c.self.view_is
