use Rattle.rx_serial.proofs.OneRefusal.{one_refusal}
use Rattle.rx_serial.proofs.laws.unfit_valuations_have_one_refusal.Goals as goal

pub returns : goal.returns
returns c =
    λ values why other u v. one_refusal c.args.message.now.domains c.args.message.now.graph c.requires values why other u v
