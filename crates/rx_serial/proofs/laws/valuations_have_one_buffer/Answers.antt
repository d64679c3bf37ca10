use Rattle.rx_graph.proofs.Exclusions.{exclusive_from_checks}
use Rattle.rx_serial.proofs.OneBuffer.{one_buffer}
use Rattle.rx_serial.proofs.laws.valuations_have_one_buffer.Goals as goal

pub returns : goal.returns
returns c =
    λ values b other ascending x y r s. one_buffer c.args.message.now.domains c.args.message.now.graph c.is_sound.ensures.sound (exclusive_from_checks c.args.message.now.domains c.args.message.now.graph c.is_sound.ensures.sound.holds) values b other ascending x y r s
