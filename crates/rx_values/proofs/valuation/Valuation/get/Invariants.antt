use Rattle.std.proofs.Common.{◌≡◌, drop}
use Rattle.rx_graph.specs.Fits.{content_of}
use Rattle.rx_values.specs.Valuation.{assigned}
use Rattle.rx_values.proofs.valuation.Valuation.get.Given as goal

-- the field is not among the entries so far
abbrev pub invariant-loop-entry : goal.invariant-loop-entry
invariant-loop-entry l = content_of l.field (assigned l.entry-items) ≡ content_of l.field (assigned (drop l.entry-index l.entry-items))
