use Rattle.std.proofs.Common.{◌≡◌, ◌+◌, length, drop, take}
use Rattle.rx_linear.specs.Steps.{rows_after}
use Rattle.rx_linear.proofs.stack.RowStack.take_steps.Given as goal

abbrev pub invariant-loop-step : goal.invariant-loop-step
invariant-loop-step l = record {
  rows : rows_after l.self.rows (drop l.step-index l.steps) ≡ rows_after l.fn.self.rows l.steps;
  count : length l.self.rows ≡ length l.fn.self.rows + l.step-index;
  front : take (length l.fn.self.rows) l.self.rows ≡ l.fn.self.rows;
  variables : l.self.variables ≡ l.fn.self.variables;
  limit : l.self.limit ≡ l.fn.self.limit;
}
