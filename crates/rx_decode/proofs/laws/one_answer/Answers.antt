use Rattle.rx_decode.proofs.OneText.{one_answer}
use Rattle.rx_decode.proofs.laws.one_answer.Goals as goal

pub returns : goal.returns
returns c = one_answer c.args.message.now.domains c.args.message.now.graph c.requires
