use Rattle.std.proofs.lemmas.Result.{IfOk-from_err}
use Rattle.std.proofs.Common.{refl, sym, true}
use Rattle.rx_types.specs.Narrow.{IsNarrow}
use Rattle.rx_forms.specs.Normal.{IsCondition}
use Rattle.rx_forms.specs.Code.{limits}
use Rattle.rx_forms.specs.Expressions.{HasFact}
use Rattle.rx_layout.specs.Laid.{end_front}
use Rattle.rx_layout.specs.TypedPath.{message_of, path_of}
use Rattle.rx_layout.proofs.Gathered.{if_ok}
use Rattle.rx_layout.proofs.Laying.{carried, condition_laid}
use Rattle.rx_layout.proofs.path_end.PathEnd.condition_besides.Goals as goal

pub condition_form-requires-clause-condition : goal.condition_form-requires-clause-condition
condition_form-requires-clause-condition c =
    let e = c.args.self.now in
    carried (λ t fs a. IsCondition (limits t) a.condition) _ _ _ _ _ _ (sym c.message.ensures) c.fields.ensures (sym c.link.ensures) c.has_forms.ensures.formable.condition

pub condition_form-requires-clause-narrow : goal.condition_form-requires-clause-narrow
condition_form-requires-clause-narrow c =
    carried (λ t fs a. IsNarrow (limits t) a.condition) _ _ _ _ _ _ (sym c.message.ensures) c.fields.ensures (sym c.link.ensures) c.has_forms.ensures.narrow.condition

pub condition_form-requires-clause-room : goal.condition_form-requires-clause-room
condition_form-requires-clause-room c = c.requires.room

pub returns-in_err-fact : goal.returns-in_err-fact
returns-in_err-fact c = IfOk-from_err c.from_residual.result _ c.from_residual.ensures.0

pub same-forms : goal.same-forms
same-forms c = refl

pub returns : goal.returns
returns c =
    let e = c.args.self.now in
    let p = path_of e in
    let w0 = c.args.asked.work in
    let w1 = c.condition_form.new.work in
    let f = c.in_ok-fact.fact in
    let fact = carried (λ t fs a. HasFact (limits t) fs true a.condition w0 w1 f) _ (message_of p) _ (end_front p).fields _ e.arrow c.message.ensures c.fields.ensures c.link.ensures c.in_ok-fact.ensures.fact in
    if_ok c.with.result _ _ (λ new is front h. condition_laid p e.arrow front c.args.asked new w1 f c.has_forms.ensures.narrow.condition fact is h) c.with.ensures
