use Rattle.rx_grammar.proofs.Parts.{stop_deep, stop_memory}
use Rattle.rx_grammar.proofs.Whole.{is_within}
use Rattle.rx_grammar.proofs.part.longest_expr.Goals as goal

pub shorter_expr-requires-clause-within : goal.shorter_expr-requires-clause-within
shorter_expr-requires-clause-within c = is_within _ _ _ (rw c.in-Err-Expected.field-0-is at c.in-Err-Expected.ensures.fault)

pub shorter_expr-requires-clause-fault : goal.shorter_expr-requires-clause-fault
shorter_expr-requires-clause-fault c = rw c.in-Err-Expected.field-0-is at c.in-Err-Expected.ensures.fault

pub returns-in-Err-TooDeep-clause-fault : goal.returns-in-Err-TooDeep-clause-fault
returns-in-Err-TooDeep-clause-fault c = stop_deep _ _ _ (rw c.in-Err-TooDeep.field-0-is at c.in-Err-TooDeep.ensures.fault)

pub returns-in-Err-NoMemory-clause-fault : goal.returns-in-Err-NoMemory-clause-fault
returns-in-Err-NoMemory-clause-fault c = stop_memory _ _
