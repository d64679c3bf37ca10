use Rattle.rx_linear.specs.Units.{unit_row}
use Rattle.rx_linear.proofs.Stacks.{joined_written}
use Rattle.rx_linear.proofs.buffer.join_unit_at.Goals as goal

pub returns-clause-value : goal.returns-clause-value
returns-clause-value c =
    joined_written c.args.variables c.args.count c.join_at.result c.args.cells.now c.write_unit_at.new.cells c.join_at.new.cells (unit_row c.args.variables c.args.variable c.args.coefficient.now c.args.least.now) c.write_unit_at.ensures.before c.write_unit_at.ensures.value c.join_at.ensures.value
