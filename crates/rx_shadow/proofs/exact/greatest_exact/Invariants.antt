use Rattle.std.proofs.Common.{◌≡◌, ◌≤◌}
use Rattle.rx_shadow.specs.Simple.{is_exact, greatest_below}
use Rattle.rx_shadow.specs.Known.{rows_of}
use Rattle.rx_shadow.proofs.exact.greatest_exact.Given as goal

abbrev pub invariant-loop-below : goal.invariant-loop-below
invariant-loop-below l = record {
  within : l.below ≤ l.variables;
  same : greatest_below (is_exact (rows_of l.known)) l.below ≡ greatest_below (is_exact (rows_of l.known)) l.variables;
}

abbrev pub decreases-loop-below : goal.decreases-loop-below
decreases-loop-below l = l.below
