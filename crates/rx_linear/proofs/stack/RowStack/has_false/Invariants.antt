use Rattle.std.proofs.Common.{◌≡◌, false}
use Rattle.std.specs.List.{list_any}
use Rattle.rx_linear.specs.Joining.{is_false}
use Rattle.rx_linear.specs.Cells.{rows_of}
use Rattle.rx_linear.proofs.stack.RowStack.has_false.Given as goal

abbrev pub invariant-loop-row : goal.invariant-loop-row
invariant-loop-row l = list_any is_false (rows_of l.self-inside.variables l.row l.self-inside.cells.items) ≡ false
