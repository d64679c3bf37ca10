use Rattle.rx_draft.proofs.Taking.{value_refused}
use Rattle.rx_draft.proofs.stepping.place_of_number.Goals as goal

pub returns-else-allows-clause-refused : goal.returns-else-allows-clause-refused
returns-else-allows-clause-refused c =
    λ domains m before s.
    let t = c.in-Within.ensures domains m s in
    ((t.0, t.1), value_refused domains m c.args.env.now c.args.field c.args.number c.allows.result (c.requires.scalar domains m s) (λ d typed. c.allows.ensures domains m d s.stands typed) c.if-allows.false)

pub returns-else-allows-2-clause-refused : goal.returns-else-allows-2-clause-refused
returns-else-allows-2-clause-refused c =
    λ domains m before s.
    let t = c.in-Beyond.ensures domains m s in
    ((t.0, t.1), value_refused domains m c.args.env.now c.args.field c.args.number c.allows-in-Beyond.result (c.requires.scalar domains m s) (λ d typed. c.allows-in-Beyond.ensures domains m d s.stands typed) c.if-allows-2.false)
