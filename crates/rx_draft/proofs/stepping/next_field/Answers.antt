use Rattle.rx_draft.proofs.Taking.{not_next}
use Rattle.rx_draft.proofs.stepping.next_field.Goals as goal

pub returns-in-Null-clause-none : goal.returns-in-Null-clause-none
returns-in-Null-clause-none c =
    λ domains m f s n.
    let t = c.in-Null.ensures domains m s in
    not_next domains m c.args.plan.now s c.args.env.now c.requires t.0 f t.1 n
