use Rattle.std.proofs.Common.{ℕ, ap, subst, ◌∙◌, Option, slice_get}
use Rattle.rx_graph.specs.Graph.{overlay_of}
use Rattle.rx_graph.specs.Typed.{Typed}
use Rattle.rx_layout.specs.Laid.{IsAsked}
use Rattle.rx_layout.specs.QueryOf.{cover_asked}
use Rattle.rx_layout.proofs.Gathered.{if_ok}
use Rattle.rx_layout.proofs.goal_parts.field_cover.Goals as goal

pub returns-in-Some : goal.returns-in-Some
returns-in-Some c =
    let e = c.args.end.now in
    if_ok c.never.result _ _ (λ a h. subst (λ (o : Option ℕ). IsAsked 190 e (cover_asked e.domains e.graph o) a) (c.in-Some.ensures ∙ ap (λ (t : Typed). overlay_of (slice_get t.graph.fields c.args.field)) c.message.ensures) h) c.never.ensures

pub returns-in-None : goal.returns-in-None
returns-in-None c =
    let e = c.args.end.now in
    if_ok c.cover.result _ _ (λ a h. subst (λ (o : Option ℕ). IsAsked 190 e (cover_asked e.domains e.graph o) a) (c.in-None.ensures ∙ ap (λ (t : Typed). overlay_of (slice_get t.graph.fields c.args.field)) c.message.ensures) h) c.cover.ensures
