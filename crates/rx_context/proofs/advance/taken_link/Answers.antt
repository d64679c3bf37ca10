use Rattle.std.proofs.Common.{◌≡◌, ℕ, ◌<◌, true, false, List, length, get_or, Some, min, sym, ap, ◌∙◌, subst, inl, inr, arith}
use Rattle.std.specs.Prelude.{slice_get}
use Rattle.std.proofs.lemmas.Bool.{cases_lt}
use Rattle.rx_graph.specs.declared.message.Link.{Link}
use Rattle.rx_graph.specs.Graph.{Arrow, arrow_of, arrows}
use Rattle.rx_graph.specs.Checks.{is_node}
use Rattle.rx_graph.specs.Paths.{IsTrue}
use Rattle.rx_graph.proofs.Exclusions.{is_itself}
use Rattle.rx_graph.proofs.Listed.{same_node}
use Rattle.rx_context.specs.Plan.{planned}
use Rattle.rx_context.proofs.Arrows.{link_at, same_arrow, arrow_within}
use Rattle.rx_context.proofs.Standing.{in_span, has_values}
use Rattle.rx_context.proofs.advance.taken_link.Goals.{else-is-via-then-is+else-truth, else-is-via-else-is}
use Rattle.rx_context.proofs.advance.taken_link.Goals as goal

clash : true ≡ false → ⊥
clash h = cc

-- the link of this turn, in the message's list
here : (items links : List Link) (i k : ℕ) (link : Link) → links ≡ items → i < min k (length links) → link ≡ get_or links i link → slice_get (arrows items) i ≡ Some (arrow_of link)
here items links i k link same lt is =
    subst (λ l. slice_get (arrows l) i ≡ Some (arrow_of link)) same (link_at links i link is (omega (arith, lt)))

this : (items links : List Link) (i k : ℕ) (link : Link) (a : Arrow) → links ≡ items → link ≡ get_or links i link → k ≡ i → slice_get (arrows items) k ≡ Some a → arrow_of link ≡ a
this items links i k link a same is e h =
    same_arrow links i link a is (subst (λ l. slice_get (arrows l) i ≡ Some a) (sym same) (subst (λ n. slice_get (arrows items) n ≡ Some a) e h))

pub loop-index-init : goal.loop-index-init
loop-index-init c =
    λ k link lt is source taken.
    let r = c.requires in
    let span = in_span r.0 r.1 (planned c.args.kept.now) r.2 c.args.at k link is source in
    omega (arith, lt, span.from, ap (λ s. s.from) c.span-found.ensures)

pub truth-requires : goal.truth-requires
truth-requires c =
    let r = c.requires in
    let v = has_values r.0 r.1 (planned c.args.kept.now) c.args.env.now r.2 r.3 c.loop-index.index (arrow_of c.index-links-index.result) (here c.args.kept.now.message.links.items c.as_slice-links.result.now c.loop-index.index c.span-found.result.end c.index-links-index.result c.as_slice-links.ensures.value (omega (arith, c.loop-index-test.true, c.min-index-end.ensures)) c.index-links-index.is) in
    (v.0, v.1.condition, v.2)

pub returns-then-truth-clause-some : goal.returns-then-truth-clause-some
returns-then-truth-clause-some c =
    (c.loop-index.index, here c.args.kept.now.message.links.items c.as_slice-links.result.now c.loop-index.index c.span-found.result.end c.index-links-index.result c.as_slice-links.ensures.value (omega (arith, c.loop-index-test.true, c.min-index-end.ensures)) c.index-links-index.is, same_node c.index-links-index.result.source c.args.at (sym c.is.ensures ∙ c.if-is.true), sym c.truth.ensures ∙ c.if-truth.true)

pub loop-index-preserved : goal.loop-index-preserved
loop-index-preserved c =
    λ k link lt is source taken. elim (cases_lt k c.loop-index.index) [
      | inl l ↦ c.loop-index.invariant k link l is source taken
      | inr l ↦ (let e : k ≡ c.loop-index.index = omega (arith, lt, l) in
          let same : arrow_of c.index-links-index.result ≡ link = this c.args.kept.now.message.links.items c.as_slice-links.result.now c.loop-index.index k c.index-links-index.result link c.as_slice-links.ensures.value c.index-links-index.is e is in
          let at : c.index-links-index.result.source ≡ c.args.at = ap (λ x. x.source) same ∙ source in
          let holds : IsTrue (arrow_of c.index-links-index.result) c.args.env.now = subst (λ x. IsTrue x c.args.env.now) (sym same) taken in
          elim c.else-is.branch [ else-is-via-then-is+else-truth w ↦ clash (sym holds ∙ sym w.truth.ensures ∙ w.if-truth.false) | else-is-via-else-is w ↦ clash (sym (c.is.ensures ∙ ap (λ n. is_node n c.args.at) at ∙ is_itself c.args.at) ∙ w.if-is.false) ])
    ]

pub returns-clause-none : goal.returns-clause-none
returns-clause-none c =
    λ k link is source taken.
    let r = c.requires in
    let span = in_span r.0 r.1 (planned c.args.kept.now) r.2 c.args.at k link is source in
    let within : k < length c.args.kept.now.message.links.items = arrow_within c.args.kept.now.message.links.items k link is in
    let end : k < c.span-found.result.end = omega (arith, span.before, ap (λ s. s.end) c.span-found.ensures) in
    c.loop-index.invariant k link (omega (arith, within, end, ap length c.as_slice-links.ensures.value, c.min-index-end.ensures, c.loop-index-test.false)) is source taken
