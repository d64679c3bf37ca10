use Rattle.std.proofs.Common.{subst}
use Rattle.rx_context.specs.Contexts.{ReadsNothingBy, StopsBy}
use Rattle.rx_decode.proofs.decoding.decode.Goals as goal

pub returns-in-Err : goal.returns-in-Err
returns-in-Err c =
    let domains = c.args.message.now.domains in
    let m = c.args.message.now.graph in
    let none = subst (λ s. ReadsNothingBy s.plan s.bytes) c.over.ensures c.in-Err.ensures.none in
    let stops = subst (λ s. StopsBy s.plan s.bytes c.in-Err.refused.stuck) c.over.ensures c.in-Err.ensures.stops in
    (none domains m c.requires.stands, stops domains m c.requires.stands)
