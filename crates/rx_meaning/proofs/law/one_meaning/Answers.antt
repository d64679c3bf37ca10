use Rattle.rx_meaning.proofs.Closure.{one_meaning}
use Rattle.rx_meaning.proofs.law.one_meaning.Goals as goal

pub returns : goal.returns
returns c = one_meaning
