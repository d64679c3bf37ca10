use Rattle.std.proofs.lemmas.Result.{IfOk-from_err}
use Rattle.std.proofs.Common.{refl, sym, subst, ℕ, List}
use Rattle.rx_graph.specs.Graph.{Arrow, type_of}
use Rattle.rx_graph.specs.Typed.{Typed}
use Rattle.rx_forms.specs.Normal.{Formed}
use Rattle.rx_forms.specs.Code.{limits}
use Rattle.rx_forms.specs.Steps.{size_aspect}
use Rattle.rx_forms.specs.Links.{IsNumericIfAny, IsNarrowIfAny}
use Rattle.rx_forms.specs.Expressions.{HasAspect, size_otherwise}
use Rattle.rx_layout.specs.Laid.{end_front}
use Rattle.rx_layout.specs.TypedPath.{message_of, path_of}
use Rattle.rx_layout.proofs.Laying.{carried, placed_is}
use Rattle.rx_layout.proofs.path_end.PathEnd.placed.Goals as goal

pub returns-in_err-first : goal.returns-in_err-first
returns-in_err-first c = IfOk-from_err c.from_residual.result _ c.from_residual.ensures.0

pub size_form-requires-clause-numeric : goal.size_form-requires-clause-numeric
size_form-requires-clause-numeric c =
    carried (λ t fs a. IsNumericIfAny a.size) _ _ _ _ _ _ (sym c.message.ensures) c.fields.ensures (sym c.link.ensures) c.has_forms.ensures.formable.size

pub size_form-requires-clause-narrow : goal.size_form-requires-clause-narrow
size_form-requires-clause-narrow c =
    carried (λ t fs a. IsNarrowIfAny (limits t) a.size) _ _ _ _ _ _ (sym c.message.ensures) c.fields.ensures (sym c.link.ensures) c.has_forms.ensures.narrow.size

pub size_form-requires-clause-room : goal.size_form-requires-clause-room
size_form-requires-clause-room c = c.in_ok-first.ensures.laid_is.few

pub returns-in_err-size : goal.returns-in_err-size
returns-in_err-size c = IfOk-from_err c.from_residual-in_err-size.result _ c.from_residual-in_err-size.ensures.0

pub same-forms : goal.same-forms
same-forms c = refl

pub returns : goal.returns
returns c =
    let e = c.args.self.now in
    let p = path_of e in
    let begun = c.in_ok-first.field-0 in
    let w0 = begun.asked.work in
    let w1 = c.size_form.new.work in
    let size = c.in_ok-size.size in
    let has : Typed → List Formed → Arrow → ℕ → Type 0 = λ t fs a k. HasAspect (limits t) fs (size_aspect (type_of t.domains t.graph k) a.size) (size_otherwise (type_of t.domains t.graph k) begun.first) w0 w1 size in
    let there = carried (λ t fs a. has t fs a c.target_field-field.result) _ (message_of p) _ (end_front p).fields _ e.arrow c.message.ensures c.fields.ensures c.link.ensures c.in_ok-size.ensures.aspect in
    let aspect = subst (λ k. has (message_of p) (end_front p).fields e.arrow k) c.target_field-field.ensures there in
    placed_is e begun.first size begun.asked.forms w0 w1 c.has_forms.ensures.narrow.size aspect c.in_ok-first.ensures
