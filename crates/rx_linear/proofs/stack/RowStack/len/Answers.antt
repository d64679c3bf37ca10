use Rattle.std.proofs.Common.{◌∙◌, sym, ap, length}
use Rattle.rx_linear.specs.Cells.{Stacked}
use Rattle.rx_linear.proofs.Stacks.{length-rows_of}
use Rattle.rx_linear.proofs.stack.RowStack.len.Goals as goal

pub returns-clause-value : goal.returns-clause-value
returns-clause-value c = sym (length-rows_of c.self.inside.variables c.self.inside.count c.self.inside.cells.items) ∙ ap (λ (s : Stacked). length s.rows) c.self.view_is
