use Rattle.std.proofs.Common.{◌≡◌, ap, ◌∙◌}
use Rattle.serde_json.specs.Data.{object}
use Rattle.serde_json.proofs.Views.{view-Object}
use Rattle.rx_graph.specs.Graph.{domains_in, graph_of}
use Rattle.rx_values.specs.Printing.{members_of}
use Rattle.rx_values.proofs.Members.{text_of_object}
use Rattle.rx_values.proofs.printing.printed.Goals as goal

pub returns : goal.returns
returns c =
    let domains = domains_in c.args.scalars.now in
    let m = graph_of c.args.message.now in
    let is = view-Object c.in_ok-members.members ∙ ap object (c.in_ok-members.ensures ∙ ap (members_of domains m) c.entries.ensures.values) in
    ap (λ v. v.items) c.into_bytes.ensures.value ∙ text_of_object domains m c.in_ok-text.text c.args.valuation.now _ is c.in_ok-text.ensures.text
