use Rattle.std.proofs.Common.{◌≡◌, ◌<◌, ◌≤◌}
use Rattle.rx_shadow.specs.Bounds.{narrowest, width}
use Rattle.rx_shadow.specs.Known.{rows_of}
use Rattle.rx_shadow.proofs.bounds.narrowest.Given as goal

abbrev pub invariant-loop-variable : goal.invariant-loop-variable
invariant-loop-variable l = record {
  within : l.best < l.variable;
  most : l.variable ≤ l.variables;
  best : l.best ≡ narrowest l.variable (rows_of l.known);
  least : l.least ≡ width (rows_of l.known) l.best;
}
