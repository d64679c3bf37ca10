use Rattle.std.proofs.Common.{subst}
use Rattle.rx_graph.specs.Graph.{arrow_of}
use Rattle.rx_graph.specs.Cycles.{IsLink}
use Rattle.rx_context.specs.Plan.{planned}
use Rattle.rx_context.proofs.Standing.{has_values, leads_to_null}
use Rattle.rx_context.proofs.advance.advance.Goals as goal

pub returns-in_default-target : goal.returns-in_default-target
returns-in_default-target c =
    λ domains m s.
    let h = c.in-Some.ensures.some in
    let link = arrow_of c.in-Some.link.now in
    (h.0, record { link = link; is = subst (λ g. IsLink g h.0 link) s.graph h.1; source = h.2; target = leads_to_null domains m (planned c.args.kept.now) s h.0 link h.1 c.in_default-target.not-At; taken = h.3 })

pub place-requires : goal.place-requires
place-requires c =
    let r = c.requires in
    let h = c.in-Some.ensures.some in
    has_values r.0 r.1 (planned c.args.kept.now) c.args.env.now r.2 r.3 h.0 (arrow_of c.in-Some.link.now) h.1

pub beyond-requires : goal.beyond-requires
beyond-requires c =
    let r = c.requires in
    let h = c.in-Some.ensures.some in
    has_values r.0 r.1 (planned c.args.kept.now) c.args.env.now r.2 r.3 h.0 (arrow_of c.in-Some.link.now) h.1
