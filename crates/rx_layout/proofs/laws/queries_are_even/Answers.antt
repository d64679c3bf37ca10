use Rattle.rx_layout.proofs.Whole.{queries_even}
use Rattle.rx_layout.proofs.laws.queries_are_even.Goals as goal

pub returns : goal.returns
returns c = queries_even c.args.message.now.domains c.args.message.now.graph
