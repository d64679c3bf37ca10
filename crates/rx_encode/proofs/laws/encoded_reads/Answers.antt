use Rattle.rx_encode.proofs.RoundTrip.{encoded_reads}
use Rattle.rx_encode.proofs.laws.encoded_reads.Goals as goal

pub returns : goal.returns
returns c = encoded_reads c.args.message.now.domains c.args.message.now.graph
