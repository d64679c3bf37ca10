use Rattle.std.proofs.Common.{sym, ap, ◌∙◌, List, ℤ}
use Rattle.rx_shadow.specs.Bounds.{zero_elsewhere}
use Rattle.rx_shadow.proofs.AloneRows.{more_alone}
use Rattle.rx_shadow.proofs.marked.alone_at.Goals as goal

pub returns-else-is_zero_elsewhere : goal.returns-else-is_zero_elsewhere
returns-else-is_zero_elsewhere c =
    more_alone c.args.row.now c.args.variable c.requires.front c.requires.some
    (ap (λ (cs : List ℤ). zero_elsewhere c.args.variable cs) (sym c.as_slice-coefficients.ensures) ∙ sym c.is_zero_elsewhere.ensures ∙ c.if-is_zero_elsewhere.false)
