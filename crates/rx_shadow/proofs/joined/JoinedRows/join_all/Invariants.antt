use Rattle.std.proofs.Common.{◌≡◌, drop}
use Rattle.rx_linear.specs.Joining.{joined}
use Rattle.rx_shadow.proofs.joined.JoinedRows.join_all.Given as goal

abbrev pub invariant-loop-row : goal.invariant-loop-row
invariant-loop-row l = (l.self.variables ≡ l.fn.self.variables) × (joined l.self.rows (drop l.row-index l.rows) ≡ joined l.fn.self.rows l.rows)
