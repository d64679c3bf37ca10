use Rattle.std.proofs.lemmas.Result.{IfOk-from_err}
use Rattle.std.proofs.Common.{ap, ◌∙◌}
use Rattle.rx_graph.specs.Graph.{type_of}
use Rattle.rx_forms.specs.declared.linear.Linear.{Linear}
use Rattle.rx_forms.specs.declared.linear.Form.{Form}
use Rattle.rx_forms.specs.Steps.{size_aspect, first_form, size_form, target_field}
use Rattle.rx_layout.specs.Fitting.{fits}
use Rattle.rx_layout.specs.Laid.{end_front, after_target}
use Rattle.rx_layout.specs.QueryOf.{goal_step, position_formula}
use Rattle.rx_layout.specs.TypedPath.{path_of}
use Rattle.rx_layout.proofs.Behind
use Rattle.rx_layout.proofs.FormulasFit
use Rattle.rx_layout.proofs.FrontsFit.{wider}
use Rattle.rx_layout.proofs.Gathered.{if_ok}
use Rattle.rx_layout.proofs.Laying.{renamed, with_fact}
use Rattle.rx_layout.proofs.goal_parts.position.Goals as goal

pub returns-in_err-target : goal.returns-in_err-target
returns-in_err-target c = IfOk-from_err c.from_residual.result _ c.from_residual.ensures.0

pub returns-in_err-formula : goal.returns-in_err-formula
returns-in_err-formula c = IfOk-from_err c.from_residual-in_err-formula.result _ c.from_residual-in_err-formula.ensures.0

pub returns : goal.returns
returns c =
    let e = c.args.end.now in
    let domains = e.domains in
    let m = e.graph in
    let link = e.arrow in
    let p = path_of e in
    let front = end_front p in
    let step = goal_step domains m front.fields front.division link in
    let type = type_of domains m (target_field link.target) in
    let target = c.in_ok-target.target in
    let t = c.in_ok-target.ensures in
    let g = position_formula (first_form step) (size_form type step) in
    let formula = c.in_ok-formula.ensures ∙ ap (λ (x : Linear). position_formula x target.size) t.target.begins ∙ ap (λ (x : Linear). position_formula (first_form step) x) t.target.extends in
    if_ok c.with.result _ _ (λ a h. renamed p 190 _ _ a (Behind.one_formula domains m front link link.first (size_aspect type link.size) g)
    (with_fact p 190 (after_target domains m link front) target.asked a c.in_ok-formula.formula g t.laid_is h formula (λ n r fit.
    ap (λ (x : Form). fits n x) c.in_ok-formula.ensures ∙ FormulasFit.position_fits n target.first target.size (wider target.asked.work.next n target.first r t.low.0) (wider target.asked.work.next n target.size r t.low.1)))) c.with.ensures
