use Rattle.rx_shadow.proofs.Joins.{Joining, new_with}
use Rattle.rx_shadow.proofs.known.Derived.join_pairs_of.Given as goal

abbrev pub invariant-loop-second : goal.invariant-loop-second
invariant-loop-second l = Joining (new_with l.variable l.first.row) l.leaving l.second-index l.fn.self l.self
