use Rattle.rx_links.proofs.Acyclic.{acyclic}
use Rattle.rx_links.proofs.law.stands_without_cycle.Goals as goal

pub returns : goal.returns
returns c = acyclic
