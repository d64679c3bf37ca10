use Rattle.std.proofs.lemmas.Result.{IfOk-from_err}
use Rattle.std.proofs.Common.{ap, ◌∙◌, ◌≤◌, arith, List}
use Rattle.rx_forms.specs.declared.linear.Form.{Form}
use Rattle.rx_forms.specs.Normal.{Formed}
use Rattle.rx_forms.specs.Fronts.{after_end}
use Rattle.rx_layout.specs.Fitting.{fits}
use Rattle.rx_layout.specs.Laid.{end_front}
use Rattle.rx_layout.specs.QueryOf.{null_formula}
use Rattle.rx_layout.specs.TypedPath.{path_of}
use Rattle.rx_layout.proofs.Behind
use Rattle.rx_layout.proofs.FormulasFit
use Rattle.rx_layout.proofs.FrontsFit.{each_wider}
use Rattle.rx_layout.proofs.Gathered.{if_ok}
use Rattle.rx_layout.proofs.Laying.{renamed, with_fact, next_is}
use Rattle.rx_layout.proofs.goal_parts.null.Goals as goal

pub returns-in_err-asked : goal.returns-in_err-asked
returns-in_err-asked c = IfOk-from_err c.from_residual.result _ c.from_residual.ensures.0

pub returns-in_err-formula : goal.returns-in_err-formula
returns-in_err-formula c = IfOk-from_err c.from_residual-in_err-formula.result _ c.from_residual-in_err-formula.ensures.0

pub returns : goal.returns
returns c =
    let e = c.args.end.now in
    let domains = e.domains in
    let m = e.graph in
    let link = e.arrow in
    let p = path_of e in
    let front = end_front p in
    let mid = after_end domains m front link in
    let asked = c.in_ok-asked.asked in
    let g = null_formula front.fields in
    let formula = c.in_ok-formula.ensures ∙ ap (λ (fs : List Formed). null_formula fs) c.fields.ensures in
    if_ok c.with.result _ _ (λ a h. renamed p 190 _ _ a (Behind.only_formula domains m front link g)
    (with_fact p 190 mid asked a c.in_ok-formula.formula g c.in_ok-asked.ensures h formula (λ n r fit.
    let d = next_is p 190 mid asked c.in_ok-asked.ensures in
    let le : mid.division ≤ n = omega (arith, d, r) in
    ap (λ (y : Form). fits n y) formula ∙ FormulasFit.null_fits n front.fields (each_wider mid.division n front.fields le fit.fields)))) c.with.ensures
