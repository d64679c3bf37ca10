use Rattle.std.proofs.Common.{◌≡◌, true, false, ◌+◌, sym, ap, ◌∙◌, subst, arith}
use Rattle.rx_graph.specs.Checks.{is_node}
use Rattle.rx_graph.specs.Graph.{arrows}
use Rattle.rx_graph.proofs.Exclusions.{is_itself}
use Rattle.rx_context.proofs.Spans.{AreIn, skips, widens, are_in_all}
use Rattle.rx_context.proofs.making.span_of.Goals.{then-is, else-is}
use Rattle.rx_context.proofs.making.span_of.Goals as goal

clash : true ≡ false → ⊥
clash h = cc

pub loop-index-init : goal.loop-index-init
loop-index-init c =
    record { all = λ k link lt. absurd (omega (arith, lt)); from = omega arith; end = omega arith; none = λ empty k link lt. absurd (omega (arith, lt)) }

pub loop-index-preserved : goal.loop-index-preserved
loop-index-preserved c =
    let in_front = c.loop-index.invariant in
    let source = ap (λ l. l.source) c.index-links-index.is in
    elim c.if-is.branch [
      | then-is w ↦ subst (λ s. AreIn (arrows c.args.links.now) c.args.node (c.loop-index.index + 1) s) (sym w.span-is) (widens c.args.links.now c.args.node c.loop-index.index c.index-links-index.result c.index-links-index.is c.loop-index.span in_front w.widened-span.result w.widened-span.ensures.first w.widened-span.ensures.more)
      | else-is w ↦ subst (λ s. AreIn (arrows c.args.links.now) c.args.node (c.loop-index.index + 1) s) (sym w.span-is) (skips c.args.links.now c.args.node c.loop-index.index c.index-links-index.result c.index-links-index.is c.loop-index.span in_front (λ h. clash (sym (c.is.ensures ∙ ap (λ n. is_node n c.args.node) (sym source ∙ h) ∙ is_itself c.args.node) ∙ w.if-is.false)))
    ]

pub returns : goal.returns
returns c =
    are_in_all c.args.links.now c.args.node c.loop-index.index c.loop-index.span c.loop-index-test.false c.loop-index.invariant
