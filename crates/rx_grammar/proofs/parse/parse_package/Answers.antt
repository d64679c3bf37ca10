use Rattle.rx_grammar.proofs.Whole.{fault_told, is_within}
use Rattle.rx_grammar.proofs.parse.parse_package.Goals as goal

pub fault_of-requires : goal.fault_of-requires
fault_of-requires c = is_within _ _ _ c.in-Err.ensures.fault

pub returns-in-Err-clause-fault : goal.returns-in-Err-clause-fault
returns-in-Err-clause-fault c = rw (← c.as_slice-items.ensures.value) (fault_told _ _ _ _ _ _ c.in-Err.ensures.fault c.fault_of.ensures)
