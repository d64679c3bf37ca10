use Rattle.std.proofs.Common.{◌≡◌, ◌+◌, ◌-◌, ◌≤◌, length, drop}
use Rattle.rx_linear.specs.Joining.{joined}
use Rattle.rx_linear.proofs.stack.RowStack.join_all.Given as goal

abbrev pub invariant-loop-row : goal.invariant-loop-row
invariant-loop-row l = record {
  rows : joined l.self.rows (drop l.row-index l.rows) ≡ joined l.fn.self.rows l.rows;
  room : length l.self.rows + (length l.rows - l.row-index) ≤ l.self.limit;
  variables : l.self.variables ≡ l.fn.self.variables;
  limit : l.self.limit ≡ l.fn.self.limit;
}
