use Rattle.std.proofs.Common.{◌≡◌, ◌↔◌, ap, ◌∙◌, subst, ℕ, List, [], IsTrue}
use Rattle.rx_linear.specs.declared.row.Row.{Row}
use Rattle.rx_linear.specs.Joining.{joined}
use Rattle.rx_shadow.specs.Bounds.{HasUnitRows}
use Rattle.rx_shadow.specs.Known.{rows_of}
use Rattle.rx_shadow.proofs.solving.is_bounded.Goals as goal

pub returns : goal.returns
returns c =
    let rows : rows_of c.deref.result.now ≡ joined [] c.args.system.now.rows = ap rows_of c.deref.ensures.value ∙ c.in_ok-known.ensures.rows ∙ ap (joined []) c.rows.ensures.value in
    subst (λ (n : ℕ). IsTrue c.all_bounded.result ↔ HasUnitRows n (joined [] c.args.system.now.rows)) c.variables-variables.ensures.value
    (subst (λ (rs : List Row). IsTrue c.all_bounded.result ↔ HasUnitRows c.variables-variables.result rs) rows c.all_bounded.ensures)
