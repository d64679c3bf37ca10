use Rattle.rx_shadow.proofs.Joins.{Joining, new_pairs}
use Rattle.rx_shadow.proofs.known.Derived.join_pairs.Given as goal

abbrev pub invariant-loop-first : goal.invariant-loop-first
invariant-loop-first l = Joining (new_pairs l.variable l.leaving) l.leaving l.first-index l.fn.self l.self
