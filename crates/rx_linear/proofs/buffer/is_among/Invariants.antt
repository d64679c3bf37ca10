use Rattle.std.proofs.Common.{◌≡◌, drop, false}
use Rattle.std.specs.List.{list_any}
use Rattle.rx_linear.specs.Joining.{same_row}
use Rattle.rx_linear.specs.Cells.{row_of, rows_of}
use Rattle.rx_linear.proofs.buffer.is_among.Given as goal

abbrev pub invariant-loop-row : goal.invariant-loop-row
invariant-loop-row l = list_any (same_row (row_of l.variables (drop l.at l.cells))) (rows_of l.variables l.row l.cells) ≡ false
