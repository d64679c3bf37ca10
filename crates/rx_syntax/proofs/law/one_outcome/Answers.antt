use Rattle.rx_syntax.proofs.Goes.{one_list, one_fault, no_fault}
use Rattle.rx_syntax.proofs.law.one_outcome.Goals as goal

pub returns-clause-list : goal.returns-clause-list
returns-clause-list c = one_list

pub returns-clause-fault : goal.returns-clause-fault
returns-clause-fault c = one_fault

pub returns-clause-either : goal.returns-clause-either
returns-clause-either c = no_fault
