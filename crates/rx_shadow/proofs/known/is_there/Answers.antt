use Rattle.std.proofs.Common.{sym, ◌∙◌, rules, tests}
use Rattle.std.proofs.lemmas.Iterator.{YieldsList-from_slice}
use Rattle.std.proofs.lemmas.Iterator.Search.{any_from_yields_List}
use Rattle.rx_linear.specs.Joining.{same_row}
use Rattle.rx_shadow.proofs.RowTests.{any_rows}
use Rattle.rx_shadow.proofs.known.is_there.Goals as goal

pub returns : goal.returns
returns c =
    any_from_yields_List (λ k. same_row c.args.row.now k.row) _ _ _ c.any.ensures.ran (YieldsList-from_slice c.args.known.now cc) (λ x b q k. search (rules, tests))
    ∙ sym (any_rows (same_row c.args.row.now) c.args.known.now)
