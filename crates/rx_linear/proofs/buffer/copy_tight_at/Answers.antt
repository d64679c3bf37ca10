use Rattle.std.proofs.Common.{◌∙◌, sym, ap, subst}
use Rattle.rx_linear.specs.declared.row.Row.{Row}
use Rattle.rx_linear.specs.Rows.{Wide, tight}
use Rattle.rx_linear.proofs.Stacked.{copied_row}
use Rattle.rx_linear.proofs.buffer.copy_tight_at.Goals as goal

pub tighten_at-requires-clause-wide : goal.tighten_at-requires-clause-wide
tighten_at-requires-clause-wide c =
    subst (λ (r : Row). Wide r) (sym (copied_row c.args.variables c.args.from c.args.target c.args.cells.now c.copy_at.new.cells c.copy_at.ensures.value)) c.requires.wide

pub returns-clause-value : goal.returns-clause-value
returns-clause-value c =
    c.tighten_at.ensures.value ∙ ap (λ (r : Row). tight r) (copied_row c.args.variables c.args.from c.args.target c.args.cells.now c.copy_at.new.cells c.copy_at.ensures.value)
