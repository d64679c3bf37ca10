use Rattle.std.proofs.Common.{◌≡◌, refl, subst, List, false}
use Rattle.std.proofs.lemmas.Result.{err_from_is_err_and, IfOk-from_err, on_ok_weaker}
use Rattle.rx_types.specs.Tree.{tree_if_any}
use Rattle.rx_graph.specs.Graph.{arrow_of, type_of}
use Rattle.rx_forms.specs.declared.field.FieldForms.{FieldForms}
use Rattle.rx_forms.specs.Steps.{form_or, end_form, size_aspect}
use Rattle.rx_forms.specs.Code.{formed_all, limits}
use Rattle.rx_forms.specs.Expressions.{HasAspect, aspect_within, size_otherwise}
use Rattle.rx_forms.specs.Fronts.{front_of}
use Rattle.rx_forms.proofs.Kept.{off_left}
use Rattle.rx_forms.proofs.Building
use Rattle.rx_forms.proofs.Reaching.{fails_too}
use Rattle.rx_forms.proofs.builder.place.Goals as goal

pub first_form-requires-clause-numeric : goal.first_form-requires-clause-numeric
first_form-requires-clause-numeric c = c.requires.formable.first

pub first_form-requires-clause-narrow : goal.first_form-requires-clause-narrow
first_form-requires-clause-narrow c = c.requires.narrow.first

pub first_form-requires-clause-room : goal.first_form-requires-clause-room
first_form-requires-clause-room c = c.requires.room

pub size_form-requires-clause-numeric : goal.size_form-requires-clause-numeric
size_form-requires-clause-numeric c = c.requires.formable.size

pub size_form-requires-clause-narrow : goal.size_form-requires-clause-narrow
size_form-requires-clause-narrow c = c.requires.narrow.size

pub size_form-requires-clause-room : goal.size_form-requires-clause-room
size_form-requires-clause-room c = let p = c.in_ok-first.ensures.aspect in Building.room_behind _ _ _ _ p.within p.next

pub add_field-requires : goal.add_field-requires
add_field-requires c = record { small = c.requires.small }

pub returns-in_err-first : goal.returns-in_err-first
returns-in_err-first c =
    record {
      gone = IfOk-from_err c.from_residual.result _ c.from_residual.ensures.0;
      within = IfOk-from_err c.from_residual.result _ c.from_residual.ensures.0;
      limit =
          let p = err_from_is_err_and c.from_residual.result c.from_residual.ensures.1 in
          let n = c.args.builder.now.work.next in
          let x = tree_if_any c.args.link.now.first in
          rw (p.1, p.2) (λ e. off_left _ _ (subst (λ (fs : List FieldForms). aspect_within (formed_all fs) n x (form_or x (formed_all fs) n (end_form (formed_all fs))) ≡ false) c.as_slice.ensures.value (c.in_err-first.ensures.limit e)));
    }

pub returns-in_err-size : goal.returns-in_err-size
returns-in_err-size c =
    let domains = c.args.message.now.domains in
    let m = c.args.message.now.graph in
    let limit = limits c.args.message.now in
    let type = type_of domains m c.args.field in
    let front = front_of c.args.builder.now in
    let link = arrow_of c.args.link.now in
    let w0 = c.args.builder.now.work in
    let w1 = c.first_form.new.work in
    let f = c.in_ok-first.first in
    let a = subst (λ (fs : List FieldForms). HasAspect limit (formed_all fs) link.first (end_form (formed_all fs)) w0 w1 f) c.as_slice.ensures.value c.in_ok-first.ensures.aspect in
    let p = err_from_is_err_and c.from_residual-in_err-size.result c.from_residual-in_err-size.ensures.1 in
    record {
      gone = IfOk-from_err c.from_residual-in_err-size.result _ c.from_residual-in_err-size.ensures.0;
      within = IfOk-from_err c.from_residual-in_err-size.result _ c.from_residual-in_err-size.ensures.0;
      limit = rw (p.1, p.2) (λ e. Building.size_fails domains m type front link w0 w1 w1 f f refl refl a (subst (λ (fs : List FieldForms). aspect_within (formed_all fs) w1.next (size_aspect type link.size) (form_or (size_aspect type link.size) (formed_all fs) w1.next (size_otherwise type f)) ≡ false) c.as_slice-2.ensures.value (c.in_err-size.ensures.limit e)));
    }

pub returns : goal.returns
returns c =
    let domains = c.args.message.now.domains in
    let m = c.args.message.now.graph in
    let limit = limits c.args.message.now in
    let type = type_of domains m c.args.field in
    let front = front_of c.args.builder.now in
    let link = arrow_of c.args.link.now in
    let w0 = c.args.builder.now.work in
    let w1 = c.first_form.new.work in
    let w2 = c.size_form.new.work in
    let f = c.in_ok-first.first in
    let s = c.in_ok-size.size in
    let a = subst (λ (fs : List FieldForms). HasAspect limit (formed_all fs) link.first (end_form (formed_all fs)) w0 w1 f) c.as_slice.ensures.value c.in_ok-first.ensures.aspect in
    let b = subst (λ (fs : List FieldForms). HasAspect limit (formed_all fs) (size_aspect type link.size) (size_otherwise type f) w1 w2 s) c.as_slice-2.ensures.value c.in_ok-size.ensures.aspect in
    let r = c.add_field.result in
    record {
      gone = on_ok_weaker r (λ h. Building.place_goes domains m type front link w0 w1 w2 f s refl refl a b c.args.field (front_of c.add_field.new.builder) c.requires.target h) c.add_field.ensures.gone;
      within = on_ok_weaker r (λ h. Building.place_holds domains m type front link w0 w1 w2 f s refl refl a b h) c.add_field.ensures.within;
      limit = fails_too r _ _ (λ h. Building.end_fails domains m type front link w0 w1 w2 f s refl refl a b h) c.add_field.ensures.limit;
    }
