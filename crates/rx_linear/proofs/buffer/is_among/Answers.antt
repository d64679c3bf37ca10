use Rattle.std.proofs.Common.{◌∙◌, sym, drop}
use Rattle.rx_linear.specs.Joining.{same_row}
use Rattle.rx_linear.specs.Cells.{row_of}
use Rattle.rx_linear.proofs.Stacks.{none_of-more, some_of}
use Rattle.rx_linear.proofs.buffer.is_among.Goals as goal

pub loop-row-preserved : goal.loop-row-preserved
loop-row-preserved c =
    none_of-more (same_row (row_of c.args.variables (drop c.args.at c.args.cells.now))) c.args.variables c.loop-row.row c.args.cells.now c.loop-row.invariant (sym c.same_row_at.ensures ∙ c.if-same_row_at.false)

pub returns-then-same_row_at : goal.returns-then-same_row_at
returns-then-same_row_at c =
    sym (some_of (same_row (row_of c.args.variables (drop c.args.at c.args.cells.now))) c.args.variables c.args.count c.loop-row.row c.args.cells.now c.loop-row-test.true (sym c.same_row_at.ensures ∙ c.if-same_row_at.true))
