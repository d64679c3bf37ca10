use Rattle.std.proofs.lemmas.Result.{IfOk-from_err}
use Rattle.std.proofs.Common.{refl, sym, ap, subst, ◌∙◌, arith, [], ◌∷◌}
use Rattle.rx_types.specs.Narrow.{places_in_bits}
use Rattle.rx_types.specs.declared.interval.Interval.{Interval}
use Rattle.rx_graph.specs.Graph.{Arrow, arrow_of, limit_of}
use Rattle.rx_graph.specs.Typed.{Typed}
use Rattle.rx_forms.specs.Code.{limits}
use Rattle.rx_forms.specs.Links.{IsNarrowIfAny}
use Rattle.rx_layout.specs.declared.asked.Asked.{Asked}
use Rattle.rx_forms.specs.declared.linear.Form.{Form}
use Rattle.rx_layout.specs.Fitting.{fits, IsLowTo}
use Rattle.rx_layout.specs.Laid.{end_front, after_target}
use Rattle.rx_layout.proofs.Stages.{formula_behind, units_behind, grid_units}
use Rattle.rx_layout.specs.QueryOf.{grid_formula, unit_rows, interval_or, rest_interval}
use Rattle.rx_layout.specs.TypedPath.{path_of}
use Rattle.rx_layout.proofs.Behind
use Rattle.rx_layout.proofs.FormulasFit
use Rattle.rx_layout.proofs.Gathered.{if_ok}
use Rattle.rx_layout.proofs.Laying.{carried, renamed, with_fact, with_unit, next_is}
use Rattle.rx_layout.proofs.goal_parts.grid.Goals as goal

pub returns-in_err-target : goal.returns-in_err-target
returns-in_err-target c = IfOk-from_err c.from_residual.result _ c.from_residual.ensures.0

pub returns-in_err-formula : goal.returns-in_err-formula
returns-in_err-formula c = IfOk-from_err c.from_residual-in_err-formula.result _ c.from_residual-in_err-formula.ensures.0

pub returns-in_err-asked : goal.returns-in_err-asked
returns-in_err-asked c = IfOk-from_err c.from_residual-in_err-asked.result _ c.from_residual-in_err-asked.ensures.0

pub returns-in_err-asked-2 : goal.returns-in_err-asked-2
returns-in_err-asked-2 c = IfOk-from_err c.from_residual-in_err-asked-2.result _ c.from_residual-in_err-asked-2.ensures.0

pub grid_formula-requires : goal.grid_formula-requires
grid_formula-requires c = record { few = c.in_ok-target.ensures.laid_is.few }

pub interval_or-first-requires-clause-narrow : goal.interval_or-first-requires-clause-narrow
interval_or-first-requires-clause-narrow c =
    carried (λ t fs a. IsNarrowIfAny (limits t) a.first) _ _ [] [] _ _ (sym c.message.ensures) refl (sym c.link.ensures) c.has_forms.ensures.narrow.first

pub interval_or-first-requires-clause-short : goal.interval_or-first-requires-clause-short
interval_or-first-requires-clause-short c = c.places.ensures.short

pub interval_or-size-requires-clause-narrow : goal.interval_or-size-requires-clause-narrow
interval_or-size-requires-clause-narrow c =
    carried (λ t fs a. IsNarrowIfAny (limits t) a.size) _ _ [] [] _ _ (sym c.message-2.ensures) refl (sym c.link-2.ensures) c.has_forms.ensures.narrow.size

pub interval_or-size-requires-clause-short : goal.interval_or-size-requires-clause-short
interval_or-size-requires-clause-short c = c.rest.ensures.short

pub with_quotient-requires-clause-short : goal.with_quotient-requires-clause-short
with_quotient-requires-clause-short c = c.interval_or-first.ensures.short

pub with_quotient-requires-clause-room : goal.with_quotient-requires-clause-room
with_quotient-requires-clause-room c = let few = c.in_ok-target.ensures.laid_is.few in omega (arith, few)

pub with_quotient-requires-2-clause-short : goal.with_quotient-requires-2-clause-short
with_quotient-requires-2-clause-short c = c.interval_or-size.ensures.short

pub with_quotient-requires-2-clause-room : goal.with_quotient-requires-2-clause-room
with_quotient-requires-2-clause-room c = let e = ap (λ (a : Asked). a.work.next) c.in_ok-asked.ensures in let few = c.in_ok-target.ensures.laid_is.few in omega (arith, e, few)

pub returns : goal.returns
returns c =
    let e = c.args.end.now in
    let domains = e.domains in
    let m = e.graph in
    let link = e.arrow in
    let p = path_of e in
    let front = end_front p in
    let limit = limit_of domains m in
    let mid = after_target domains m link front in
    let target = c.in_ok-target.target in
    let t = c.in_ok-target.ensures in
    let d = next_is p 190 mid target.asked t.laid_is in
    let f = c.in_ok-formula.formula in
    let last = formula_behind (f ∷ []) mid in
    let g = c.in_ok-formula.ensures ∙ ap (λ n. grid_formula target.first target.size n) d in
    let i = interval_or limit link.first places_in_bits in
    let j = interval_or limit link.size rest_interval in
    let is_first = c.interval_or-first.ensures.value ∙ ap (λ (x : Interval). interval_or (limits c.message.result.now) (arrow_of c.link.result.now).first x) c.places.ensures.value
    ∙ ap (λ (y : Typed). interval_or (limits y) (arrow_of c.link.result.now).first places_in_bits) c.message.ensures ∙ ap (λ (y : Arrow). interval_or limit y.first places_in_bits) c.link.ensures in
    let is_size = c.interval_or-size.ensures.value ∙ ap (λ (x : Interval). interval_or (limits c.message-2.result.now) (arrow_of c.link-2.result.now).size x) c.rest.ensures.value
    ∙ ap (λ (y : Typed). interval_or (limits y) (arrow_of c.link-2.result.now).size rest_interval) c.message-2.ensures ∙ ap (λ (y : Arrow). interval_or limit y.size rest_interval) c.link-2.ensures in
    let one = units_behind (unit_rows mid.division i) 1 mid in
    let two = units_behind (unit_rows one.division j) 1 one in
    let first = with_unit p 190 mid target.asked c.in_ok-asked.asked c.interval_or-first.result i c.interval_or-first.ensures.short is_first t.laid_is c.in_ok-asked.ensures in
    let second = with_unit p 191 one c.in_ok-asked.asked c.in_ok-asked-2.asked c.interval_or-size.result j c.interval_or-size.ensures.short is_size first c.in_ok-asked-2.ensures in
    let up = next_is p 192 two c.in_ok-asked-2.asked second in
    let low = subst (λ k. IsLowTo k target.first × IsLowTo k target.size) d t.low in
    if_ok c.with.result _ _ (λ a h. renamed p 192 _ _ a
    (Behind.two_units last (units_behind (unit_rows last.division i) 1 last) (formula_behind (f ∷ []) two) i j refl refl
    ∙ Behind.grid_on domains m front mid last (units_behind (grid_units domains m last.division link) 2 last) link target.first target.size f c.requires.bytes refl t.target g refl refl)
    (with_fact p 192 two c.in_ok-asked-2.asked a f f second h refl (λ n r fit.
    ap (λ (x : Form). fits n x) g ∙ FormulasFit.grid_fits n mid.division target.first target.size low.0 low.1 (omega (arith, up, r))))) c.with.ensures
