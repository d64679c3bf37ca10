use Rattle.std.proofs.Common.{◌≡◌, true, false, length, sym, ap, ◌∙◌, subst, rules, arith}
use Rattle.std.specs.Prelude.{pos, slice_get}
use Rattle.rx_graph.specs.Fits.{Bytes}
use Rattle.rx_graph.specs.Graph.{overlay_of}
use Rattle.rx_draft.specs.Drafts.{drafted, IsDraft}
use Rattle.rx_draft.specs.Puts.{HasPut}
use Rattle.rx_draft.proofs.Adding.{few, bytes_written, distinct_more, has_put, draft_more}
use Rattle.rx_draft.proofs.Overlays.{some_field, bytes_there}
use Rattle.rx_draft.proofs.Taking.{has_size, bytes_have_value, lies_here}
use Rattle.rx_draft.proofs.putting.put_bytes.Goals as goal

clash : true ≡ false → ⊥
clash e = cc

pub returns-then-not-set_bytes-clause-refused : goal.returns-then-not-set_bytes-clause-refused
returns-then-not-set_bytes-clause-refused c =
    λ domains m s.
    let e = c.args.env.now in
    let f = c.args.field in
    let l = c.in-Ok.ensures.place domains m s in
    let differs = c.set_bytes.ensures.differs (λ yes. clash (sym yes ∙ c.if-not-set_bytes.true)) in
    let x = some_field (overlay_of (slice_get m.fields f)) ((c.is_overlay.ensures domains m s.stands).0 differs.0) in (
      (l.0, l.1),
      bytes_have_value domains m e f c.args.bytes.now,
      has_size domains m c.args.plan.now s e c.requires.draft.underway f l.0 c.args.bytes.now l.1 (l.3 ∙ ap pos c.in-Ok.ensures.size),
      lies_here domains m c.args.plan.now s e c.requires.draft.underway f c.in-Ok.first c.in-Ok.size l,
      λ agrees. differs.1 (bytes_there c.args.plan.now c.args.buffer.now e c.requires.draft domains m s f c.in-Ok.first c.in-Ok.size l x.0 x.1 c.args.bytes.now (c.requires.opaque domains m s) c.in-Ok.ensures.size agrees),
    )

pub push-requires-clause-room : goal.push-requires-clause-room
push-requires-clause-room c =
    let q = c.requires.draft.underway.plan in
    let most = few c.args.plan.now c.args.buffer.now c.args.env.now c.requires.draft q.0 q.1 q.2 in
    omega (arith, most)

pub push-requires-clause-new : goal.push-requires-clause-new
push-requires-clause-new c =
    let q = c.requires.draft.underway.plan in
    let domains = q.0 in
    let m = q.1 in
    let s = q.2 in
    let long : length c.set_bytes.new.buffer ≡ length c.args.buffer.now = search rules in
    let w = bytes_written c.args.plan.now c.args.buffer.now c.set_bytes.new.buffer c.args.env.now c.requires.draft domains m s c.args.field c.in-Ok.first c.in-Ok.size c.args.bytes.now c.is_overlay.result (c.in-Ok.ensures.place domains m s) (c.requires.opaque domains m s) c.in-Ok.ensures.size (c.is_overlay.ensures domains m s.stands) c.set_bytes.ensures.over (c.set_bytes.ensures.here c.if-not-set_bytes.false) c.set_bytes.ensures.others c.set_bytes.ensures.before in
    distinct_more c.args.plan.now c.args.buffer.now c.args.env.now c.requires.draft domains m s c.set_bytes.new.buffer long c.args.field c.in-Ok.first c.in-Ok.size 0 (Bytes c.args.bytes.now) w

pub returns-else-not-set_bytes-clause-draft : goal.returns-else-not-set_bytes-clause-draft
returns-else-not-set_bytes-clause-draft c =
    let long : length c.set_bytes.new.buffer ≡ length c.args.buffer.now = search rules in
    let all = draft_more c.args.plan.now c.args.buffer.now c.set_bytes.new.buffer c.args.env.now c.args.field c.in-Ok.first c.in-Ok.size 0 (Bytes c.args.bytes.now) c.requires.draft long
    (λ domains m s. bytes_written c.args.plan.now c.args.buffer.now c.set_bytes.new.buffer c.args.env.now c.requires.draft domains m s c.args.field c.in-Ok.first c.in-Ok.size c.args.bytes.now c.is_overlay.result (c.in-Ok.ensures.place domains m s) (c.requires.opaque domains m s) c.in-Ok.ensures.size (c.is_overlay.ensures domains m s.stands) c.set_bytes.ensures.over (c.set_bytes.ensures.here c.if-not-set_bytes.false) c.set_bytes.ensures.others c.set_bytes.ensures.before) in
    subst (λ e. IsDraft (drafted c.set_bytes.new.buffer c.args.plan.now e)) (sym c.push.ensures) all

pub returns-else-not-set_bytes-clause-put : goal.returns-else-not-set_bytes-clause-put
returns-else-not-set_bytes-clause-put c =
    λ domains m s.
    let long : length c.set_bytes.new.buffer ≡ length c.args.buffer.now = search rules in
    let w = bytes_written c.args.plan.now c.args.buffer.now c.set_bytes.new.buffer c.args.env.now c.requires.draft domains m s c.args.field c.in-Ok.first c.in-Ok.size c.args.bytes.now c.is_overlay.result (c.in-Ok.ensures.place domains m s) (c.requires.opaque domains m s) c.in-Ok.ensures.size (c.is_overlay.ensures domains m s.stands) c.set_bytes.ensures.over (c.set_bytes.ensures.here c.if-not-set_bytes.false) c.set_bytes.ensures.others c.set_bytes.ensures.before in
    let all = has_put c.args.plan.now c.args.buffer.now c.args.env.now c.requires.draft domains m s c.set_bytes.new.buffer long c.args.field c.in-Ok.first c.in-Ok.size 0 (Bytes c.args.bytes.now) w in
    subst (λ e. HasPut domains m (drafted c.args.buffer.now c.args.plan.now c.args.env.now) (drafted c.set_bytes.new.buffer c.args.plan.now e) c.args.field (Bytes c.args.bytes.now)) (sym c.push.ensures) all

pub returns-in-Err-clause-refused : goal.returns-in-Err-clause-refused
returns-in-Err-clause-refused c = λ domains m s. c.in-Err.ensures.refused domains m _ s
