use Rattle.std.proofs.Common.{◌≡◌, false}
use Rattle.rx_shadow.specs.Bounds.{bounds_clash}
use Rattle.rx_shadow.specs.Simple.{any_below}
use Rattle.rx_shadow.specs.Known.{rows_of}
use Rattle.rx_shadow.proofs.exact.some_bounds_clash.Given as goal

abbrev pub invariant-loop-variable : goal.invariant-loop-variable
invariant-loop-variable l = any_below (λ x. bounds_clash x (rows_of l.known)) l.variable ≡ false
