use Rattle.rx_shadow.proofs.Raising.{Placing}
use Rattle.rx_shadow.proofs.placing.place.Given as goal

abbrev pub invariant-loop-k : goal.invariant-loop-k
invariant-loop-k l = Placing l.variable l.leaving l.k-index l.fn.point l.point
