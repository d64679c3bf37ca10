use Rattle.std.proofs.Common.{refl, ap, subst, ◌∙◌, List, map}
use Rattle.std.proofs.lemmas.Result.{IfOk-from_err}
use Rattle.rx_forms.specs.declared.linear.Linear.{Linear}
use Rattle.rx_forms.specs.declared.linear.Form.{AtLeast}
use Rattle.rx_forms.specs.declared.field.FieldForms.{FieldForms}
use Rattle.rx_forms.specs.Fronts.{Front}
use Rattle.rx_layout.specs.Fitting.{IsFitting}
use Rattle.rx_layout.specs.Laid.{path_facts}
use Rattle.rx_layout.proofs.path_forms.PathForms.with.Goals as goal

pub returns-in_err-facts : goal.returns-in_err-facts
returns-in_err-facts c = IfOk-from_err c.from_residual.result _ c.from_residual.ensures.0

pub returns-in_err-rows : goal.returns-in_err-rows
returns-in_err-rows c = IfOk-from_err c.from_residual-in_err-rows.result _ c.from_residual-in_err-rows.ensures.0

pub same-facts : goal.same-facts
same-facts c = refl

pub invariant_of-result : goal.invariant_of-result
invariant_of-result c =
    let domains = c.args.message.now.domains in
    let m = c.args.message.now.graph in
    let b = c.args.builder in
    let gone = c.requires.gone in
    record {
      fields_are = ap (λ (x : Front). x.fields) gone;
      next_is = ap (λ (x : Front). x.division) gone;
      few = c.requires.room;
      facts_are = c.in_ok-facts.ensures ∙ ap (λ (fs : List FieldForms). path_facts domains m fs b.conditions) c.as_slice.ensures.value ∙ ap (λ (x : Front). path_facts domains m b.fields.items x.conditions) gone;
      rows_are = c.in_ok-rows.ensures ∙ ap (λ (fs : List Linear). map (λ f. AtLeast f) fs) c.as_slice-2.ensures ∙ ap (λ (x : Front). map (λ f. AtLeast f) x.rows) gone;
      fits = λ n r. subst (λ (x : Front). IsFitting n x) gone (c.requires.fits n r);
    }

pub returns : goal.returns
returns c = refl
