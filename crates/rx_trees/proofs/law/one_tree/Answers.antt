use Rattle.rx_trees.proofs.law.one_tree.Goals as goal
use Rattle.rx_trees.proofs.Packages.{package_same}

pub returns : goal.returns
returns c = λ ts one other p q. package_same ts one other p q
