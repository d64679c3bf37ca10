use Rattle.std.proofs.Common.{ap, ◌∙◌, ◌<◌, ◌^◌, arith, List, length, inl, inr}
use Rattle.std.specs.List.{slice_get}
use Rattle.rx_proof.specs.declared.query.Query.{Query}
use Rattle.rx_proof.specs.declared.open.Open.{Open}
use Rattle.rx_proof.specs.Open.{disjunctions, size}
use Rattle.rx_proof.proofs.Opens.{disjunctions_entered, size_entered, length_at_most}
use Rattle.rx_proof.proofs.Places.{Before, LeftOf, found_at, sought_more, left_within}
use Rattle.rx_proof.proofs.open.+look.Goals.{then-place-taken, else-place-taken, then-taken-count, else-taken-count}
use Rattle.rx_proof.proofs.open.+look.Goals as goal

pub returns-in-Ok : goal.returns-in-Ok
returns-in-Ok t c =
    let sought : Before c.in-Entered.taken c.args.place c.if-place-taken.before =
    elim c.if-place-taken.branch [ then-place-taken w ↦ inl (w.if-place-taken.true, w.before-is) | else-place-taken w ↦ inr (w.if-place-taken.false, w.before-is ∙ w.saturating_add-before.ensures) ] in
    let s = ap size c.in-Entered.is ∙ size_entered c.in-Entered.inner c.in-Entered.taken c.in-Entered.more in
    let short : length (disjunctions c.in-Entered.inner.now) < 2 ^ 64 = omega (arith, s, length_at_most c.in-Entered.inner.now, c.requires) in
    ap (λ (ch : Open). slice_get (disjunctions ch) c.args.place) c.in-Entered.is
    ∙ ap (λ (ds : List (List Query)). slice_get ds c.args.place) (disjunctions_entered c.in-Entered.inner c.in-Entered.taken c.in-Entered.more)
    ∙ found_at (disjunctions c.in-Entered.inner.now) c.in-Entered.more.now c.in-Entered.taken c.args.place c.if-place-taken.before c.in-Ok.found.now short (omega (arith, c.ranges.place)) sought c.in-Ok.ensures

pub returns-after-taken-count : goal.returns-after-taken-count
returns-after-taken-count t c =
    let sought : Before c.in-Entered.taken c.args.place c.if-place-taken.before =
    elim c.if-place-taken.branch [ then-place-taken w ↦ inl (w.if-place-taken.true, w.before-is) | else-place-taken w ↦ inr (w.if-place-taken.false, w.before-is ∙ w.saturating_add-before.ensures) ] in
    let left : LeftOf c.in-Entered.taken c.in-Err.count c.if-taken-count.left =
    elim c.if-taken-count.branch [
      | then-taken-count w ↦ ((λ h. omega (arith, w.left-is, w.if-taken-count.true)), (λ h. absurd (omega (arith, h, w.if-taken-count.true))))
      | else-taken-count w ↦ ((λ h. absurd (omega (arith, h, w.if-taken-count.false))), (λ h. w.left-is))
    ] in
    sought_more (disjunctions c.in-Entered.inner.now) c.in-Entered.more.now (disjunctions c.args.chain.now) c.in-Entered.taken c.in-Err.count c.if-taken-count.left c.args.place
    (ap disjunctions c.in-Entered.is ∙ disjunctions_entered c.in-Entered.inner c.in-Entered.taken c.in-Entered.more)
    c.in-Err.ensures.0 left (left_within c.in-Entered.taken c.in-Err.count c.if-taken-count.left c.args.place c.if-place-taken.before c.in-Err.ensures.1 left sought) c.beyond-in-Err.result c.beyond-in-Err.ensures
