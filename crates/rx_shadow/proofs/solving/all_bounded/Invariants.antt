use Rattle.rx_shadow.specs.Bounds.{HasUnitRows}
use Rattle.rx_shadow.specs.Known.{rows_of}
use Rattle.rx_shadow.proofs.solving.all_bounded.Given as goal

abbrev pub invariant-loop-variable : goal.invariant-loop-variable
invariant-loop-variable l = HasUnitRows l.variable (rows_of l.known)
