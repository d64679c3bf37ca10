use Rattle.std.proofs.Common.{sym, subst}
use Rattle.rx_graph.specs.Graph.{arrow_of, domains_of, graph_of}
use Rattle.rx_layout.specs.Goals.{IsMet}
use Rattle.message_trials.proofs.shown.is_met.Goals as goal

pub returns-in-Some-taken-3 : goal.returns-in-Some-taken-3
returns-in-Some-taken-3 c t =
    let domains = domains_of c.args.spec.now in
    let link = c.in-Some-taken-3.ensures in
    subst (λ g. IsMet domains (graph_of c.args.message.now) c.args.env.now g) (sym c.in-Cover.is) (link.0, arrow_of c.in-Some-taken-3.link.now, link.1, (link.2, c.is_uncovered.ensures t domains))

pub returns-in-Some-taken-4 : goal.returns-in-Some-taken-4
returns-in-Some-taken-4 c t =
    let domains = domains_of c.args.spec.now in
    let link = c.in-Some-taken-4.ensures in
    subst (λ g. IsMet domains (graph_of c.args.message.now) c.args.env.now g) (sym c.in-Whole.is) (link.0, arrow_of c.in-Some-taken-4.link.now, link.1, (link.2, c.is_broken.ensures t domains))
