use Rattle.rx_grammar.proofs.Parts.{part_fault_told}
use Rattle.rx_grammar.proofs.Whole.{is_within}
use Rattle.rx_grammar.proofs.part.parse_part.Goals as goal

pub fault_of-requires : goal.fault_of-requires
fault_of-requires c = is_within _ _ _ c.in-Err.ensures.fault.alone

pub returns-in-Err-clause-fault : goal.returns-in-Err-clause-fault
returns-in-Err-clause-fault c = rw (← c.as_slice-all.ensures.value, ← c.split_at.ensures.back) (part_fault_told _ _ _ _ _ c.in-Err.ensures.fault c.fault_of.ensures)
