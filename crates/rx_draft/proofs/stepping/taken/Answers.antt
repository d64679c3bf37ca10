use Rattle.std.proofs.Common.{ap, ◌∙◌, subst}
use Rattle.rx_graph.proofs.Bounded.{stays_within}
use Rattle.rx_context.specs.Steps.{IsTaken}
use Rattle.rx_draft.specs.Drafts.{end_node}
use Rattle.rx_draft.proofs.stepping.taken.Goals as goal

pub next-requires : goal.next-requires
next-requires c =
    let q = c.requires.plan in
    let o = c.requires.on q.0 q.1 q.2 in
    let e = c.args.env.now in
    (q.0, q.1, q.2.stands, stays_within q.0 q.1 q.2.stands.elaborated e.total o.0 e.fields (end_node e.fields) o.1)

pub returns : goal.returns
returns c =
    λ domains m s.
    subst (λ at. IsTaken domains m c.args.env.now at c.next.result) (c.end_of_path.ensures ∙ ap end_node c.entries.ensures.entries) (c.next.ensures domains m s.stands)
