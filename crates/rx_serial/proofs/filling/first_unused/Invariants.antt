use Rattle.std.proofs.Common.{drop}
use Rattle.rx_values.specs.Valuation.{assigned}
use Rattle.rx_serial.proofs.Left.{ArePutOrLeft}
use Rattle.rx_serial.proofs.filling.first_unused.Given as goal

-- each field that the valuation names was put, or is among the entries that are left
abbrev pub invariant-loop-entry : goal.invariant-loop-entry
invariant-loop-entry l = ArePutOrLeft l.valuation l.draft.fields (assigned (drop l.entry-index l.entry-items))
