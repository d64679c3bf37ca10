use Rattle.std.proofs.Common.{sym, ap, subst, ◌∙◌}
use Rattle.rx_graph.specs.Graph.{Arrow}
use Rattle.rx_graph.specs.declared.message.Node.{Node}
use Rattle.rx_layout.specs.Laid.{IsAsked}
use Rattle.rx_layout.specs.QueryOf.{cover_to}
use Rattle.rx_layout.proofs.Gathered.{if_ok}
use Rattle.rx_layout.proofs.goal_parts.link_cover.Goals as goal

pub returns-in-Start : goal.returns-in-Start
returns-in-Start c =
    let e = c.args.end.now in
    if_ok c.taken.result _ _ (λ a h. subst (λ (t : Node). IsAsked 190 e (cover_to e.domains e.graph t) a) (sym (sym (ap (λ (l : Arrow). l.target) c.link.ensures) ∙ c.in-Start.is)) h) c.taken.ensures

pub returns-in-At : goal.returns-in-At
returns-in-At c =
    let e = c.args.end.now in
    if_ok c.field_cover.result _ _ (λ a h. subst (λ (t : Node). IsAsked 190 e (cover_to e.domains e.graph t) a) (sym (sym (ap (λ (l : Arrow). l.target) c.link.ensures) ∙ c.in-At.is)) h) c.field_cover.ensures

pub returns-in-Null : goal.returns-in-Null
returns-in-Null c =
    let e = c.args.end.now in
    if_ok c.null.result _ _ (λ a h. subst (λ (t : Node). IsAsked 190 e (cover_to e.domains e.graph t) a) (sym (sym (ap (λ (l : Arrow). l.target) c.link.ensures) ∙ c.in-Null.is)) h) c.null.ensures
