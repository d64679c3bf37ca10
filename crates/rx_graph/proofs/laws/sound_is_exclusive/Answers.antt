use Rattle.rx_graph.proofs.Exclusions.{exclusive_from_checks}
use Rattle.rx_graph.proofs.laws.sound_is_exclusive.Goals as goal

pub returns : goal.returns
returns c = exclusive_from_checks c.args.message.now.domains c.args.message.now.graph c.is_sound.ensures.sound.holds
