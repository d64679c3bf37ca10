use Rattle.rx_values.proofs.Kept.{reads_back}
use Rattle.rx_values.proofs.laws.printed_reads_back.Goals as goal

pub returns : goal.returns
returns c = reads_back c.args.message.now.domains c.args.message.now.graph c.is_known.ensures.elaborated c.requires
