use Rattle.std.proofs.Common.{ℕ, ap, subst, ◌∙◌, Option, slice_get}
use Rattle.rx_graph.specs.Graph.{overlay_of}
use Rattle.rx_graph.specs.Typed.{Typed}
use Rattle.rx_layout.specs.Laid.{IsAsked}
use Rattle.rx_layout.specs.QueryOf.{overlay_on}
use Rattle.rx_layout.proofs.Gathered.{if_ok}
use Rattle.rx_layout.proofs.goal_parts.link_overlay.Goals as goal

pub returns-in-Some : goal.returns-in-Some
returns-in-Some c =
    let e = c.args.end.now in
    if_ok c.overlay-in-Some.result _ _ (λ a h. subst (λ (o : Option ℕ). IsAsked 190 e (overlay_on e.domains e.graph o) a) (c.in-Some.ensures ∙ ap (λ (t : Typed). overlay_of (slice_get t.graph.fields c.target_field.result)) c.message.ensures ∙ ap (λ (f : ℕ). overlay_of (slice_get e.graph.fields f)) c.target_field.ensures) h) c.overlay-in-Some.ensures

pub returns-in-None : goal.returns-in-None
returns-in-None c =
    let e = c.args.end.now in
    if_ok c.taken.result _ _ (λ a h. subst (λ (o : Option ℕ). IsAsked 190 e (overlay_on e.domains e.graph o) a) (c.in-None.ensures ∙ ap (λ (t : Typed). overlay_of (slice_get t.graph.fields c.target_field.result)) c.message.ensures ∙ ap (λ (f : ℕ). overlay_of (slice_get e.graph.fields f)) c.target_field.ensures) h) c.taken.ensures
