use Rattle.std.proofs.Common.{◌≡◌, ℕ, ◌^◌, ◌<◌, true, false, List, length, refl, sym, ap, ◌∙◌, subst, rules, arith}
use Rattle.std.specs.Prelude.{slice_get}
use Rattle.rx_types.specs.Domain.{Domain, size_of}
use Rattle.rx_graph.specs.Elaborated.{FitsOrder}
use Rattle.rx_graph.specs.Fits.{Number, content_at}
use Rattle.rx_graph.specs.Graph.{Graph, type_of, overlay_of}
use Rattle.rx_model.specs.Order.{number_in}
use Rattle.rx_draft.specs.Drafts.{drafted, StandsForSound, IsDraft}
use Rattle.rx_draft.specs.Puts.{HasPut}
use Rattle.rx_draft.proofs.Adding.{few, has_order, number_written, distinct_more, has_put, draft_more}
use Rattle.rx_draft.proofs.Numbers.{number_below, proper_type}
use Rattle.rx_draft.proofs.Overlays.{some_field, number_there}
use Rattle.rx_draft.proofs.Taking.{some_domain, number_has_size, lies_here}
use Rattle.rx_draft.proofs.putting.put_number.Goals as goal

clash : true ≡ false → ⊥
clash e = cc

pub set_number-requires-clause-groups : goal.set_number-requires-clause-groups
set_number-requires-clause-groups c =
    let q = c.requires.draft.underway.plan in
    let t = some_domain (type_of q.0 q.1 c.args.field) (c.requires.scalar q.0 q.1 q.2) in
    let order = has_order c.args.plan.now c.args.buffer.now c.args.env.now c.requires.draft q.0 q.1 q.2 c.args.field c.in-Ok.first c.in-Ok.size (c.in-Ok.ensures.place q.0 q.1 q.2) t.0 t.1 in
    subst (λ low. FitsOrder low c.in-Ok.size) (sym (c.low_order.ensures q.0 q.1 q.2.stands)) order.1.order

pub set_number-requires-clause-below : goal.set_number-requires-clause-below
set_number-requires-clause-below c =
    let q = c.requires.draft.underway.plan in
    let t = some_domain (type_of q.0 q.1 c.args.field) (c.requires.scalar q.0 q.1 q.2) in
    let order = has_order c.args.plan.now c.args.buffer.now c.args.env.now c.requires.draft q.0 q.1 q.2 c.args.field c.in-Ok.first c.in-Ok.size (c.in-Ok.ensures.place q.0 q.1 q.2) t.0 t.1 in
    subst (λ n. c.args.number < 2 ^ n) (sym order.0) (number_below t.0 c.args.number (proper_type q.0 q.1 q.2.stands.elaborated c.args.field t.0 t.1) (c.in-Ok.ensures.value q.0 q.1 q.2 t.0 c.args.number t.1 refl))

pub returns-then-not-set_number-clause-refused : goal.returns-then-not-set_number-clause-refused
returns-then-not-set_number-clause-refused c =
    λ domains m s.
    let e = c.args.env.now in
    let f = c.args.field in
    let l = c.in-Ok.ensures.place domains m s in
    let value = c.in-Ok.ensures.value domains m s in
    let t = some_domain (type_of domains m f) (c.requires.scalar domains m s) in
    let low : c.low_order.result ≡ m.low_order = c.low_order.ensures domains m s.stands in
    let differs = c.set_number.ensures.differs (λ yes. clash (sym yes ∙ c.if-not-set_number.true)) in
    let x = some_field (overlay_of (slice_get m.fields f)) ((c.is_overlay.ensures domains m s.stands).0 differs.0) in (
      (l.0, l.1),
      value,
      number_has_size domains m e f c.args.number,
      lies_here domains m c.args.plan.now s e c.requires.draft.underway f c.in-Ok.first c.in-Ok.size l,
      λ agrees. differs.1 (ap (λ b. number_in b c.args.buffer.now c.in-Ok.first c.in-Ok.size) low ∙ number_there c.args.plan.now c.args.buffer.now e c.requires.draft domains m s f c.in-Ok.first c.in-Ok.size l x.0 x.1 t.0 c.args.number t.1 (value t.0 c.args.number t.1 refl) agrees),
    )

pub push-requires-clause-room : goal.push-requires-clause-room
push-requires-clause-room c =
    let q = c.requires.draft.underway.plan in
    let most = few c.args.plan.now c.args.buffer.now c.args.env.now c.requires.draft q.0 q.1 q.2 in
    omega (arith, most)

pub push-requires-clause-new : goal.push-requires-clause-new
push-requires-clause-new c =
    let q = c.requires.draft.underway.plan in
    let domains = q.0 in
    let m = q.1 in
    let s = q.2 in
    let long : length c.set_number.new.buffer ≡ length c.args.buffer.now = search rules in
    let w = number_written domains m c.args.buffer.now c.set_number.new.buffer c.args.env.now c.args.field c.in-Ok.first c.in-Ok.size c.args.number c.is_overlay.result c.low_order.result (c.in-Ok.ensures.place domains m s) (c.requires.scalar domains m s) (c.in-Ok.ensures.value domains m s) (c.is_overlay.ensures domains m s.stands) c.set_number.ensures.over (c.low_order.ensures domains m s.stands) (c.set_number.ensures.here c.if-not-set_number.false) c.set_number.ensures.others c.set_number.ensures.before in
    distinct_more c.args.plan.now c.args.buffer.now c.args.env.now c.requires.draft domains m s c.set_number.new.buffer long c.args.field c.in-Ok.first c.in-Ok.size c.args.number (Number c.args.number) w

pub returns-else-not-set_number-clause-draft : goal.returns-else-not-set_number-clause-draft
returns-else-not-set_number-clause-draft c =
    let long : length c.set_number.new.buffer ≡ length c.args.buffer.now = search rules in
    let all = draft_more c.args.plan.now c.args.buffer.now c.set_number.new.buffer c.args.env.now c.args.field c.in-Ok.first c.in-Ok.size c.args.number (Number c.args.number) c.requires.draft long
    (λ domains m s. number_written domains m c.args.buffer.now c.set_number.new.buffer c.args.env.now c.args.field c.in-Ok.first c.in-Ok.size c.args.number c.is_overlay.result c.low_order.result (c.in-Ok.ensures.place domains m s) (c.requires.scalar domains m s) (c.in-Ok.ensures.value domains m s) (c.is_overlay.ensures domains m s.stands) c.set_number.ensures.over (c.low_order.ensures domains m s.stands) (c.set_number.ensures.here c.if-not-set_number.false) c.set_number.ensures.others c.set_number.ensures.before) in
    subst (λ e. IsDraft (drafted c.set_number.new.buffer c.args.plan.now e)) (sym c.push.ensures) all

pub returns-else-not-set_number-clause-put : goal.returns-else-not-set_number-clause-put
returns-else-not-set_number-clause-put c =
    λ domains m s.
    let long : length c.set_number.new.buffer ≡ length c.args.buffer.now = search rules in
    let w = number_written domains m c.args.buffer.now c.set_number.new.buffer c.args.env.now c.args.field c.in-Ok.first c.in-Ok.size c.args.number c.is_overlay.result c.low_order.result (c.in-Ok.ensures.place domains m s) (c.requires.scalar domains m s) (c.in-Ok.ensures.value domains m s) (c.is_overlay.ensures domains m s.stands) c.set_number.ensures.over (c.low_order.ensures domains m s.stands) (c.set_number.ensures.here c.if-not-set_number.false) c.set_number.ensures.others c.set_number.ensures.before in
    let all = has_put c.args.plan.now c.args.buffer.now c.args.env.now c.requires.draft domains m s c.set_number.new.buffer long c.args.field c.in-Ok.first c.in-Ok.size c.args.number (Number c.args.number) w in
    subst (λ e. HasPut domains m (drafted c.args.buffer.now c.args.plan.now c.args.env.now) (drafted c.set_number.new.buffer c.args.plan.now e) c.args.field (Number c.args.number)) (sym c.push.ensures) all

pub returns-in-Err-clause-refused : goal.returns-in-Err-clause-refused
returns-in-Err-clause-refused c = λ domains m s. c.in-Err.ensures.refused domains m _ s
