use Rattle.std.proofs.Common.{◌≡◌, rules}
use Rattle.rx_draft.proofs.Taking.{same_field, not_next}
use Rattle.rx_draft.proofs.stepping.place_of.Goals as goal

pub returns-else-next-field : goal.returns-else-next-field
returns-else-next-field c =
    λ domains m s n.
    let t = c.in-To.ensures domains m s in
    let same : c.in-To.next ≡ c.args.field = same_field domains m c.args.plan.now s c.args.env.now c.requires c.in-To.next c.args.field t.0 n.0 t.1 n.1 in
    search (rules, same)

pub returns-else-next-field-2 : goal.returns-else-next-field-2
returns-else-next-field-2 c =
    λ domains m s n.
    let t = c.in-Short.ensures domains m s in
    let same : c.in-Short.next ≡ c.args.field = same_field domains m c.args.plan.now s c.args.env.now c.requires c.in-Short.next c.args.field t.0 n.0 t.1 n.1 in
    search (rules, same)

pub returns-in-Null : goal.returns-in-Null
returns-in-Null c =
    λ domains m s n.
    let t = c.in-Null.ensures domains m s in
    not_next domains m c.args.plan.now s c.args.env.now c.requires t.0 c.args.field t.1 n
