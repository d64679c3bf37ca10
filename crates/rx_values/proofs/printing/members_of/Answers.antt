use Rattle.std.proofs.Common.{◌≡◌, Option, sym, ap, ◌∙◌, rules}
use Rattle.serde_json.specs.View.{view}
use Rattle.rx_types.specs.Domain.{Domain}
use Rattle.rx_graph.specs.Graph.{domains_in, graph_of, type_of}
use Rattle.rx_values.specs.Valuation.{content}
use Rattle.rx_values.specs.Printing.{data_of}
use Rattle.rx_values.proofs.Members.{one_more}
use Rattle.rx_values.proofs.printing.members_of.Goals as goal

pub loop-entry-preserved : goal.loop-entry-preserved
loop-entry-preserved c =
    let domains = domains_in c.args.scalars.now in
    let m = graph_of c.args.message.now in
    let v = c.entry-item.result in
    let holds : view c.in_ok-data.data ≡ data_of (type_of domains m v.0) (content v.1) = c.in_ok-data.ensures ∙ ap (λ (o : Option Domain). data_of o (content v.1)) c.scalar_of.ensures in
    sym (one_more domains m c.args.entries.now c.loop-entry.entry-index v c.entry-item.is (search rules) c.loop-entry.members.entries c.insert.new.self.entries c.in_ok-name.name c.in_ok-data.data (search rules) holds (search rules))
    ∙ c.loop-entry.invariant
