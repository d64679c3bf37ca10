use Rattle.rx_cycle.proofs.Leading.{told}
use Rattle.rx_cycle.proofs.law.first_is_told.Goals as goal

pub returns : goal.returns
returns c = told
