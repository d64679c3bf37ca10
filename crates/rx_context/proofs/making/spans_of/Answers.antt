use Rattle.std.proofs.Common.{◌+◌, [], ◌∷◌, ◌++◌, length, sym, ap, ◌∙◌, subst, length-append, arith}
use Rattle.std.specs.Prelude.{slice_get}
use Rattle.rx_graph.specs.declared.message.Node.TheVariants.{Start, At}
use Rattle.rx_graph.specs.Graph.{arrows, domains_in, graph_of}
use Rattle.rx_context.specs.Plan.{IsSpanOf, span_or_none}
use Rattle.rx_context.proofs.Spans.{span_added, span_kept, span_more, are_spans}
use Rattle.rx_context.proofs.making.spans_of.Goals as goal

pub loop-field-init : goal.loop-field-init
loop-field-init c =
    let links = arrows c.args.message.now.links.items in
    let span : IsSpanOf links Start c.span_of.result = subst (λ l. IsSpanOf (arrows l) Start c.span_of.result) c.as_slice-links.ensures.value c.span_of.ensures in
    let spans = c.in_ok-push.ensures.items ∙ ap (λ l. l ++ c.span_of.result ∷ []) c.new-spans.ensures.items in
    record {
      start = subst (λ l. IsSpanOf links Start (span_or_none (slice_get l 0))) (sym spans) (span_added links Start [] c.span_of.result 0 (omega arith) span);
      fields = λ f lt. absurd (omega (arith, lt));
      count = ap length spans;
    }

pub loop-field-preserved : goal.loop-field-preserved
loop-field-preserved c =
    let links = arrows c.args.message.now.links.items in
    let spans = c.loop-field.spans.items in
    let span = c.span_of-in-loop-field.result in
    let new : IsSpanOf links (At c.loop-field.field) span = subst (λ l. IsSpanOf (arrows l) (At c.loop-field.field) span) c.as_slice-links.ensures.value c.span_of-in-loop-field.ensures in
    let items = c.in_ok-push-2.ensures.items in
    let count = c.loop-field.invariant.count in
    record {
      start = subst (λ l. IsSpanOf links Start (span_or_none (slice_get l 0))) (sym items) (span_kept links Start spans span 0 (omega (arith, count)) c.loop-field.invariant.start);
      fields = λ f lt. subst (λ l. IsSpanOf links (At f) (span_or_none (slice_get l (f + 1)))) (sym items) (span_more links spans span c.loop-field.field count new c.loop-field.invariant.fields f lt);
      count = omega (arith, ap length items, length-append spans (span ∷ []), count);
    }

pub returns : goal.returns
returns c =
    are_spans (domains_in c.args.scalars.now) (graph_of c.args.message.now) c.loop-field.spans.items c.loop-field.field c.requires (omega (arith, c.loop-field-test.false, c.len-field-end.ensures)) c.loop-field.invariant.start c.loop-field.invariant.fields
