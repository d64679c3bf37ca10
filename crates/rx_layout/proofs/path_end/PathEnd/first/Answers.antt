use Rattle.std.proofs.lemmas.Result.{IfOk-from_err}
use Rattle.std.proofs.Common.{refl, sym}
use Rattle.rx_forms.specs.Code.{limits}
use Rattle.rx_forms.specs.Steps.{end_form}
use Rattle.rx_forms.specs.Links.{IsNumericIfAny, IsNarrowIfAny}
use Rattle.rx_forms.specs.Expressions.{HasAspect}
use Rattle.rx_layout.specs.Laid.{end_front}
use Rattle.rx_layout.specs.TypedPath.{message_of, path_of}
use Rattle.rx_layout.proofs.Laying.{carried, begun_is}
use Rattle.rx_layout.proofs.path_end.PathEnd.first.Goals as goal

pub returns-in_err-forms : goal.returns-in_err-forms
returns-in_err-forms c = IfOk-from_err c.from_residual.result _ c.from_residual.ensures.0

pub first_form-requires-clause-numeric : goal.first_form-requires-clause-numeric
first_form-requires-clause-numeric c =
    carried (λ t fs a. IsNumericIfAny a.first) _ _ _ _ _ _ (sym c.message.ensures) c.fields.ensures (sym c.link.ensures) c.has_forms.ensures.formable.first

pub first_form-requires-clause-narrow : goal.first_form-requires-clause-narrow
first_form-requires-clause-narrow c =
    carried (λ t fs a. IsNarrowIfAny (limits t) a.first) _ _ _ _ _ _ (sym c.message.ensures) c.fields.ensures (sym c.link.ensures) c.has_forms.ensures.narrow.first

pub first_form-requires-clause-room : goal.first_form-requires-clause-room
first_form-requires-clause-room c = c.in_ok-forms.ensures.few

pub returns-in_err-first : goal.returns-in_err-first
returns-in_err-first c = IfOk-from_err c.from_residual-in_err-first.result _ c.from_residual-in_err-first.ensures.0

pub same-forms : goal.same-forms
same-forms c = refl

pub returns : goal.returns
returns c =
    let e = c.args.self.now in
    let p = path_of e in
    let asked = c.in_ok-forms.field-0 in
    let w1 = c.first_form.new.work in
    let f = c.in_ok-first.first in
    let aspect = carried (λ t fs a. HasAspect (limits t) fs a.first (end_form fs) asked.work w1 f) _ (message_of p) _ (end_front p).fields _ e.arrow c.message.ensures c.fields.ensures c.link.ensures c.in_ok-first.ensures.aspect in
    begun_is e f asked.forms asked.work w1 c.has_forms.ensures.narrow.first aspect c.in_ok-forms.ensures
