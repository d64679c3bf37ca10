use Rattle.rx_shadow.proofs.Recursion.{outcome_recursion}
use Rattle.rx_shadow.proofs.laws.elimination_is_a_recursion.Goals as goal

pub returns : goal.returns
returns c = outcome_recursion
