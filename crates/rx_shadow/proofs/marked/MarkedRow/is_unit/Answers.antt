use Rattle.std.proofs.Common.{subst, ◌∙◌, Option}
use Rattle.rx_linear.specs.declared.row.Row.{Row}
use Rattle.rx_shadow.specs.declared.marked.Alone.{Alone}
use Rattle.rx_shadow.specs.Marked.{IsAlone, Tells}
use Rattle.rx_shadow.proofs.AloneRows.{unit_by_alone}
use Rattle.rx_shadow.proofs.marked.MarkedRow.is_unit.Goals as goal

pub returns-in-Some : goal.returns-in-Some
returns-in-Some c =
    let inside : IsAlone c.self.inside.row.coefficients c.in-Some.alone = subst (λ (o : Option Alone). Tells o c.self.inside.row) c.in-Some.is c.self.invariant in
    let alone : IsAlone c.args.self.now.coefficients c.in-Some.alone = subst (λ (row : Row). IsAlone row.coefficients c.in-Some.alone) c.self.view_is inside in
    c.is.ensures ∙ unit_by_alone c.args.self.now c.in-Some.alone c.args.variable c.args.coefficient.now alone c.requires.within c.requires.some
