use Rattle.std.proofs.Common.{take}
use Rattle.std.specs.List.{All}
use Rattle.rx_linear.specs.Systems.{FitsSystem}
use Rattle.rx_linear.proofs.system.System.fits.Given as goal

abbrev pub invariant-loop-row : goal.invariant-loop-row
invariant-loop-row l = All (FitsSystem l.variables) (take l.row-index l.rows)
