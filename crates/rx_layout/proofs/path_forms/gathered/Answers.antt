use Rattle.std.proofs.lemmas.Result.{IfOk-from_err}
use Rattle.std.proofs.Common.{◌≡◌, ℕ, sym, ap, ◌∙◌, subst, ◌+◌, ◌≤◌, ◌<◌, arith}
use Rattle.rx_forms.specs.Steps.{links_on, into_fields}
use Rattle.rx_forms.specs.Fronts.{Front, front_of, first_front, after_links}
use Rattle.rx_forms.proofs.Looping
use Rattle.rx_layout.proofs.AskedFit.{front_fits}
use Rattle.rx_layout.proofs.path_forms.gathered.Goals as goal

few_ends : (s n t : ℕ) → s ≡ 1 → n ≡ t → n < 190 → s + t ≤ 190
few_ends s n t e h k = omega (arith, e, h, k)

room_first : (d n : ℕ) → d ≡ 1 + n → n < 190 → d ≤ 190
room_first d n e k = omega (arith, e, k)

pub start-builder-requires : goal.start-builder-requires
start-builder-requires c = record { few = c.if-count-ge190.false }

pub gather_fields-requires : goal.gather_fields-requires
gather_fields-requires c =
    let e = c.start-builder.ensures in
    let n = c.scalars_along-count.result in
    record {
      few = few_ends c.start-builder.result.scalar n _ (ap (λ (x : Front). x.scalar) e) c.scalars_along-count.ensures c.if-count-ge190.false;
      room = room_first c.start-builder.result.work.next n (ap (λ (x : Front). x.division) e) c.if-count-ge190.false;
    }

pub returns-in_err-gather_fields : goal.returns-in_err-gather_fields
returns-in_err-gather_fields c = record { fits = IfOk-from_err c.from_residual.result _ c.from_residual.ensures.0; gone = IfOk-from_err c.from_residual.result _ c.from_residual.ensures.0; room = IfOk-from_err c.from_residual.result _ c.from_residual.ensures.0 }

pub returns : goal.returns
returns c =
    let domains = c.args.message.now.domains in
    let m = c.args.message.now.graph in
    let links = into_fields (links_on domains m c.args.path.now) in
    let start = c.start-builder.ensures in
    let e = start ∙ ap first_front c.scalars_along-count.ensures in
    let g = c.in_ok-gather_fields.ensures in
    let first = front_of c.start-builder.result in
    let n = c.scalars_along-count.result in
    record {
      gone = g.gone ∙ ap (λ (x : Front). after_links domains m x links) e;
      room = subst (λ (x : Front). x.division ≤ 190) (sym g.gone) (Looping.links_room domains m first links (room_first c.start-builder.result.work.next n (ap (λ (x : Front). x.division) start) c.if-count-ge190.false) g.within);
      fits = λ k r. front_fits domains m k n c.args.path.now first (front_of c.gather_fields.new.builder) c.links_have_forms.ensures.narrow start c.scalars_along-count.ensures g.gone g.within r;
    }
