use Rattle.rx_layout.proofs.Answering.{small_types, proper_types}
use Rattle.rx_layout.proofs.laws.types_are_proper.Goals as goal

pub returns : goal.returns
returns c =
    let domains = c.args.message.now.domains in
    let m = c.args.message.now.graph in
    record { small = small_types domains m c.is_known.ensures.elaborated; proper = proper_types domains m c.is_known.ensures.elaborated }
