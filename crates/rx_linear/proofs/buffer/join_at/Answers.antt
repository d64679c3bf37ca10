use Rattle.std.proofs.Common.{◌+◌, ◌*◌, drop}
use Rattle.rx_linear.specs.Rows.{tight}
use Rattle.rx_linear.specs.Cells.{row_of}
use Rattle.rx_linear.proofs.Stacks.{joins_new, joins_true, joins_among}
use Rattle.rx_linear.proofs.buffer.join_at.Goals as goal

pub returns-then-is_true_at-clause-value : goal.returns-then-is_true_at-clause-value
returns-then-is_true_at-clause-value c =
    joins_true c.args.variables c.args.count c.args.cells.now c.tighten_at.new.cells (tight (row_of c.args.variables (drop (c.args.count * (c.args.variables + 1)) c.args.cells.now))) c.is_true_at.result c.tighten_at.ensures.before c.tighten_at.ensures.value c.is_true_at.ensures c.if-is_true_at.true

pub returns-then-is_among-clause-value : goal.returns-then-is_among-clause-value
returns-then-is_among-clause-value c =
    joins_among c.args.variables c.args.count c.args.cells.now c.tighten_at.new.cells (tight (row_of c.args.variables (drop (c.args.count * (c.args.variables + 1)) c.args.cells.now))) c.is_among.result c.tighten_at.ensures.before c.tighten_at.ensures.value c.is_among.ensures c.if-is_among.true

pub returns-clause-value : goal.returns-clause-value
returns-clause-value c =
    joins_new c.args.variables c.args.count c.args.cells.now c.tighten_at.new.cells (tight (row_of c.args.variables (drop (c.args.count * (c.args.variables + 1)) c.args.cells.now))) c.is_true_at.result c.is_among.result c.tighten_at.ensures.before c.tighten_at.ensures.value c.is_true_at.ensures c.if-is_true_at.false c.is_among.ensures c.if-is_among.false
