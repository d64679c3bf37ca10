use Rattle.std.proofs.lemmas.Result.{IfOk-from_err}
use Rattle.std.proofs.Common.{refl, sym, ap, subst, ◌∙◌, arith, List, [], ◌∷◌}
use Rattle.rx_types.specs.Narrow.{places_in_bits}
use Rattle.rx_forms.specs.declared.linear.Linear.{Linear}
use Rattle.rx_forms.specs.declared.linear.Form.{Form}
use Rattle.rx_forms.specs.Normal.{Formed}
use Rattle.rx_forms.specs.Steps.{end_form}
use Rattle.rx_forms.specs.Fronts.{after_end}
use Rattle.rx_layout.specs.Fitting.{fits, IsLowTo}
use Rattle.rx_layout.specs.Laid.{end_front}
use Rattle.rx_layout.proofs.Stages.{formula_behind, units_behind}
use Rattle.rx_layout.specs.QueryOf.{no_multiple, unit_rows}
use Rattle.rx_layout.specs.TypedPath.{path_of}
use Rattle.rx_layout.proofs.Behind
use Rattle.rx_layout.proofs.FormulasFit
use Rattle.rx_layout.proofs.FrontsFit.{end_low}
use Rattle.rx_layout.proofs.Gathered.{if_ok}
use Rattle.rx_layout.proofs.Laying.{renamed, with_fact, with_unit, next_is}
use Rattle.rx_layout.proofs.goal_parts.whole.Goals as goal

pub returns-in_err-asked : goal.returns-in_err-asked
returns-in_err-asked c = IfOk-from_err c.from_residual.result _ c.from_residual.ensures.0

pub returns-in_err-last : goal.returns-in_err-last
returns-in_err-last c = IfOk-from_err c.from_residual-in_err-last.result _ c.from_residual-in_err-last.ensures.0

pub returns-in_err-formula : goal.returns-in_err-formula
returns-in_err-formula c = IfOk-from_err c.from_residual-in_err-formula.result _ c.from_residual-in_err-formula.ensures.0

pub returns-in_err-asked-2 : goal.returns-in_err-asked-2
returns-in_err-asked-2 c = IfOk-from_err c.from_residual-in_err-asked-2.result _ c.from_residual-in_err-asked-2.ensures.0

pub with_quotient-requires-clause-short : goal.with_quotient-requires-clause-short
with_quotient-requires-clause-short c = c.places.ensures.short

pub with_quotient-requires-clause-room : goal.with_quotient-requires-clause-room
with_quotient-requires-clause-room c = let few = c.in_ok-asked.ensures.few in omega (arith, few)

pub returns : goal.returns
returns c =
    let e = c.args.end.now in
    let domains = e.domains in
    let m = e.graph in
    let link = e.arrow in
    let p = path_of e in
    let front = end_front p in
    let mid = after_end domains m front link in
    let asked = c.in_ok-asked.asked in
    let t = c.in_ok-asked.ensures in
    let d = next_is p 190 mid asked t in
    let f = c.in_ok-formula.formula in
    let last = formula_behind (f ∷ []) mid in
    let units = units_behind (unit_rows mid.division places_in_bits) 1 mid in
    let end = c.in_ok-last.ensures ∙ ap (λ (fs : List Formed). end_form fs) c.fields.ensures in
    let g = c.in_ok-formula.ensures ∙ ap (λ n. no_multiple c.in_ok-last.last n) d in
    let second = c.in_ok-asked-2.asked in
    let laid = with_unit p 190 mid asked second c.places.result places_in_bits c.places.ensures.short c.places.ensures.value t c.in_ok-asked-2.ensures in
    let up = next_is p 191 units second laid in
    if_ok c.with.result _ _ (λ a h. renamed p 191 _ _ a (Behind.whole_on domains m front mid last (units_behind (unit_rows last.division places_in_bits) 1 last) link c.in_ok-last.last f refl end g refl refl)
    (with_fact p 191 units second a f f laid h refl (λ n r fit.
    let low = subst (λ (y : Linear). IsLowTo mid.division y) (sym end) (end_low mid.division front.fields (t.fits mid.division (omega (arith, d))).fields) in
    ap (λ (y : Form). fits n y) g ∙ FormulasFit.no_multiple_fits n mid.division c.in_ok-last.last low (omega (arith, up, r))))) c.with.ensures
