use Rattle.rx_layout.proofs.Behind.{null_many}
use Rattle.rx_layout.proofs.formula.null_formula.Goals as goal

pub returns-in_ok-ends_after-in-len1-up : goal.returns-in_ok-ends_after-in-len1-up
returns-in_ok-ends_after-in-len1-up c =
    null_many c.args.fields.now c.last-item.result c.in_ok-ends_after-in-len1-up.field-0 c.in-len1-up.len_at_least c.last-item.is c.in_ok-ends_after-in-len1-up.ensures
