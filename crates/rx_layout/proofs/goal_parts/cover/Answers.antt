use Rattle.std.proofs.lemmas.Result.{IfOk-from_err}
use Rattle.std.proofs.Common.{ap, ◌∙◌, ◌≤◌, arith, List}
use Rattle.rx_forms.specs.declared.linear.Linear.{Linear}
use Rattle.rx_forms.specs.declared.linear.Form.{Form}
use Rattle.rx_forms.specs.Normal.{Formed}
use Rattle.rx_forms.specs.Steps.{first_form}
use Rattle.rx_forms.specs.Fronts.{after_end}
use Rattle.rx_layout.specs.Fitting.{fits}
use Rattle.rx_layout.specs.Laid.{end_front, after_any}
use Rattle.rx_layout.specs.QueryOf.{goal_step, cover_formula}
use Rattle.rx_layout.specs.TypedPath.{path_of}
use Rattle.rx_layout.proofs.Behind
use Rattle.rx_layout.proofs.FormulasFit
use Rattle.rx_layout.proofs.FrontsFit.{wider, each_wider}
use Rattle.rx_layout.proofs.Gathered.{if_ok}
use Rattle.rx_layout.proofs.Laying.{renamed, with_fact, next_is}
use Rattle.rx_layout.proofs.goal_parts.cover.Goals as goal

pub returns-in_err-begun : goal.returns-in_err-begun
returns-in_err-begun c = IfOk-from_err c.from_residual.result _ c.from_residual.ensures.0

pub returns-in_err-formula : goal.returns-in_err-formula
returns-in_err-formula c = IfOk-from_err c.from_residual-in_err-formula.result _ c.from_residual-in_err-formula.ensures.0

pub returns : goal.returns
returns c =
    let e = c.args.end.now in
    let domains = e.domains in
    let m = e.graph in
    let link = e.arrow in
    let p = path_of e in
    let front = end_front p in
    let step = goal_step domains m front.fields front.division link in
    let begun = c.in_ok-begun.begun in
    let t = c.in_ok-begun.ensures in
    let mid = after_any domains m link.first (after_end domains m front link) in
    let first = c.in_ok-formula.ensures ∙ ap (λ (fs : List Formed). cover_formula fs begun.first) c.fields.ensures in
    let g = cover_formula front.fields (first_form step) in
    let formula = first ∙ ap (λ (y : Linear). cover_formula front.fields y) t.begins in
    if_ok c.with.result _ _ (λ a h. renamed p 190 _ _ a (Behind.first_formula domains m front link link.first g)
    (with_fact p 190 mid begun.asked a c.in_ok-formula.formula g t.laid_is h formula (λ n r fit.
    let d = next_is p 190 mid begun.asked t.laid_is in
    let le : mid.division ≤ n = omega (arith, d, r) in
    ap (λ (y : Form). fits n y) first ∙ FormulasFit.cover_fits n front.fields begun.first (each_wider mid.division n front.fields le fit.fields) (wider begun.asked.work.next n begun.first r t.low)))) c.with.ensures
