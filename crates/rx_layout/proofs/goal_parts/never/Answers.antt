use Rattle.std.proofs.lemmas.Result.{IfOk-from_err}
use Rattle.std.proofs.Common.{ap, ◌∙◌, List, []}
use Rattle.rx_forms.specs.declared.linear.Form.{Form, Any}
use Rattle.rx_forms.specs.Fronts.{after_end}
use Rattle.rx_layout.specs.Fitting.{fits}
use Rattle.rx_layout.specs.Laid.{end_front}
use Rattle.rx_layout.specs.TypedPath.{path_of}
use Rattle.rx_layout.proofs.Behind
use Rattle.rx_layout.proofs.Gathered.{if_ok, fits_any}
use Rattle.rx_layout.proofs.Laying.{renamed, with_fact}
use Rattle.rx_layout.proofs.goal_parts.never.Goals as goal

pub returns-in_err-asked : goal.returns-in_err-asked
returns-in_err-asked c = IfOk-from_err c.from_residual.result _ c.from_residual.ensures.0

pub returns : goal.returns
returns c =
    let e = c.args.end.now in
    let domains = e.domains in
    let m = e.graph in
    let link = e.arrow in
    let p = path_of e in
    let front = end_front p in
    let formula = ap (λ (fs : List Form). Any fs) c.new.ensures in
    if_ok c.with.result _ _ (λ a h. renamed p 190 _ _ a (Behind.only_formula domains m front link (Any []))
    (with_fact p 190 (after_end domains m front link) c.in_ok-asked.asked a (Any c.new.result) (Any []) c.in_ok-asked.ensures h formula (λ n r fit. ap (λ (y : Form). fits n y) formula ∙ fits_any n []))) c.with.ensures
