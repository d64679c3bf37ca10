use Rattle.std.proofs.lemmas.Result.{IfOk-from_err}
use Rattle.std.proofs.Common.{sym, ap, subst, ◌∙◌, ◌≤◌, arith, List}
use Rattle.rx_graph.specs.Graph.{type_of}
use Rattle.rx_forms.specs.declared.linear.Linear.{Linear}
use Rattle.rx_forms.specs.declared.linear.Form.{Form}
use Rattle.rx_forms.specs.Normal.{Formed, formed_of}
use Rattle.rx_forms.specs.Steps.{size_aspect, size_form, target_field}
use Rattle.rx_layout.specs.Fitting.{fits, IsLowTo}
use Rattle.rx_layout.specs.Laid.{end_front, after_target}
use Rattle.rx_layout.specs.QueryOf.{goal_step, overlay_formula}
use Rattle.rx_layout.specs.TypedPath.{path_of}
use Rattle.rx_layout.proofs.Behind
use Rattle.rx_layout.proofs.FormulasFit
use Rattle.rx_layout.proofs.FrontsFit.{found_low, wider}
use Rattle.rx_layout.proofs.Gathered.{if_ok}
use Rattle.rx_layout.proofs.Laying.{renamed, with_fact, next_is}
use Rattle.rx_layout.proofs.goal_parts.overlay.Goals as goal

pub returns-in_err-target : goal.returns-in_err-target
returns-in_err-target c = IfOk-from_err c.from_residual.result _ c.from_residual.ensures.0

pub returns-in_err-below : goal.returns-in_err-below
returns-in_err-below c = IfOk-from_err c.from_residual-in_err-below.result _ c.from_residual-in_err-below.ensures.0

pub returns-in_err-formula : goal.returns-in_err-formula
returns-in_err-formula c = IfOk-from_err c.from_residual-in_err-formula.result _ c.from_residual-in_err-formula.ensures.0

pub returns : goal.returns
returns c =
    let e = c.args.end.now in
    let domains = e.domains in
    let m = e.graph in
    let link = e.arrow in
    let p = path_of e in
    let front = end_front p in
    let step = goal_step domains m front.fields front.division link in
    let type = type_of domains m (target_field link.target) in
    let target = c.in_ok-target.target in
    let t = c.in_ok-target.ensures in
    let x = c.args.below in
    let mid = after_target domains m link front in
    let below = c.in_ok-below.ensures ∙ ap (λ (fs : List Formed). (formed_of x fs).size) c.fields.ensures in
    let g = overlay_formula (size_form type step) (formed_of x front.fields).size in
    let formula = c.in_ok-formula.ensures ∙ ap (λ (y : Linear). overlay_formula y c.in_ok-below.below) t.target.extends ∙ ap (λ (y : Linear). overlay_formula (size_form type step) y) below in
    if_ok c.with.result _ _ (λ a h. renamed p 190 _ _ a (Behind.one_formula domains m front link link.first (size_aspect type link.size) g)
    (with_fact p 190 mid target.asked a c.in_ok-formula.formula g t.laid_is h formula (λ n r fit.
    let d = next_is p 190 mid target.asked t.laid_is in
    let le : mid.division ≤ n = omega (arith, d, r) in
    ap (λ (y : Form). fits n y) c.in_ok-formula.ensures ∙ FormulasFit.unequal_fits n target.size c.in_ok-below.below (wider target.asked.work.next n target.size r t.low.1)
    (subst (λ (y : Linear). IsLowTo n y) (sym below) (wider mid.division n (formed_of x front.fields).size le (found_low mid.division front.fields x fit.fields).size))))) c.with.ensures
