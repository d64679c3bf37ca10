use Rattle.rx_linear.proofs.Stacks.{joined_written}
use Rattle.rx_linear.proofs.buffer.join_row_at.Goals as goal

pub returns-clause-value : goal.returns-clause-value
returns-clause-value c =
    joined_written c.args.variables c.args.count c.join_at.result c.args.cells.now c.write_row_at.new.cells c.join_at.new.cells c.args.row.now c.write_row_at.ensures.before c.write_row_at.ensures.value c.join_at.ensures.value
