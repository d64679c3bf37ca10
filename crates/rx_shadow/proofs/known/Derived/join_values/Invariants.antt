use Rattle.rx_shadow.proofs.Joins.{Joining, new_value}
use Rattle.rx_shadow.proofs.known.Derived.join_values.Given as goal

abbrev pub invariant-loop-row : goal.invariant-loop-row
invariant-loop-row l = Joining (new_value l.fn.self.variables l.variable l.low.row.least) l.leaving l.row-index l.fn.self l.self
