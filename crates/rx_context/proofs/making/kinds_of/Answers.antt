use Rattle.std.proofs.Common.{◌≡◌, [], ◌∷◌, length, Some, sym, ap, ◌∙◌, subst, length-append, arith}
use Rattle.std.specs.Prelude.{slice_get}
use Rattle.std.proofs.lemmas.Option.{slice_get-get_or}
use Rattle.rx_graph.specs.Graph.{domains_in, graph_of}
use Rattle.rx_context.specs.Plan.{kind_if_any}
use Rattle.rx_context.proofs.Spans.{kinds_more, kinds_all}
use Rattle.rx_context.proofs.making.kinds_of.Goals as goal

pub loop-field-preserved : goal.loop-field-preserved
loop-field-preserved c =
    let domains = domains_in c.args.scalars.now in
    let m = graph_of c.args.message.now in
    let i = c.loop-field.field-index in
    let field = c.field-item.result in
    let kinds = c.loop-field.kinds.items in
    let here : slice_get c.as_slice-field-items.result.now i ≡ Some field = slice_get-get_or c.as_slice-field-items.result.now i field c.loop-field-test.true ∙ ap Some (sym c.field-item.is) in
    let is : slice_get m.fields i ≡ Some field = subst (λ l. slice_get l i ≡ Some field) c.as_slice-field-items.ensures.value here in
    let more = kinds_more domains m kinds c.in_ok-kind_of.field-0 field i c.loop-field.invariant.count is c.in_ok-kind_of.ensures c.loop-field.invariant.types in
    record {
      types = λ f lt. ap (λ l. kind_if_any (slice_get l f)) c.in_ok-push.ensures.items ∙ more f lt;
      count = omega (arith, ap length c.in_ok-push.ensures.items, length-append kinds (c.in_ok-kind_of.field-0 ∷ []), c.loop-field.invariant.count);
    }

pub returns : goal.returns
returns c =
    kinds_all (domains_in c.args.scalars.now) (graph_of c.args.message.now) c.loop-field.kinds.items c.loop-field.field-index c.loop-field.invariant.count (omega (arith, c.loop-field-test.false, ap length c.as_slice-field-items.ensures.value)) c.loop-field.invariant.types
