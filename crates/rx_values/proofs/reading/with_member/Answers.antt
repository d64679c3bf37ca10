use Rattle.std.proofs.Common.{◌≡◌, Option, Some, None, Bool, false, Err, ap, ◌∙◌, rules}
use Rattle.std.specs.Prelude.{is_some}
use Rattle.serde_json.specs.View.{view}
use Rattle.rx_types.specs.Domain.{Domain}
use Rattle.rx_graph.specs.Graph.{domains_in, graph_of, type_of}
use Rattle.rx_graph.specs.Fits.{content_of}
use Rattle.rx_values.specs.Names.{field_named}
use Rattle.rx_values.specs.Reading.{BadValue, content_from}
use Rattle.rx_values.specs.Answers.{refusal_of}
use Rattle.rx_values.proofs.Judging.{after, judged}
use Rattle.rx_values.proofs.reading.with_member.Goals as goal

pub returns-in-Ok-None-clause-refused : goal.returns-in-Ok-None-clause-refused
returns-in-Ok-None-clause-refused c =
    let domains = domains_in c.args.scalars.now in
    let m = graph_of c.args.message.now in
    let key = c.args.key.now in
    let d = view c.args.value.now in
    let f = c.in-Some.field in
    let found : field_named m.fields key ≡ Some f = search rules in
    let fresh : is_some (content_of f c.args.values) ≡ false = search rules in
    let none : None ≡ content_from (type_of domains m f) d = (rw c.in-Ok-None.field-0-is at c.in-Ok-None.ensures) ∙ ap (λ (o : Option Domain). content_from o d) c.scalar_of.ensures in
    after (refusal_of c.bad_value.result) (BadValue key) _ (judged domains m c.args.values key d f None found fresh none) c.bad_value.ensures
