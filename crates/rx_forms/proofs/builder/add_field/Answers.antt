use Rattle.std.proofs.Common.{refl, ap, ◌∙◌, ◌+◌, ◌++◌, ◌∷◌, [], ℕ, arith}
use Rattle.std.proofs.lemmas.Result.{err_from_is_err_and, IfOk-from_err}
use Rattle.rx_forms.specs.declared.linear.Linear.{Linear}
use Rattle.rx_forms.specs.Linear.{plus}
use Rattle.rx_forms.specs.Code.{formed_all, number_by}
use Rattle.rx_forms.proofs.Building.{same_front}
use Rattle.rx_forms.proofs.builder.add_field.Goals as goal

pub returns-in_err-end : goal.returns-in_err-end
returns-in_err-end c =
    let p = err_from_is_err_and c.from_residual.result c.from_residual.ensures.1 in
    record {
      gone = IfOk-from_err c.from_residual.result _ c.from_residual.ensures.0;
      within = IfOk-from_err c.from_residual.result _ c.from_residual.ensures.0;
      limit = rw (p.1, p.2) (λ e. c.in_err-end.ensures.limit e);
    }

pub returns-in_err-keep_place : goal.returns-in_err-keep_place
returns-in_err-keep_place c =
    let p = err_from_is_err_and c.from_residual-in_err-keep_place.result c.from_residual-in_err-keep_place.ensures.1 in
    record {
      gone = IfOk-from_err c.from_residual-in_err-keep_place.result _ c.from_residual-in_err-keep_place.ensures.0;
      within = IfOk-from_err c.from_residual-in_err-keep_place.result _ c.from_residual-in_err-keep_place.ensures.0;
      limit = rw (p.1, p.2) (λ e. absurd (cc));
    }

pub returns-in_err-push_field : goal.returns-in_err-push_field
returns-in_err-push_field c =
    record {
      gone = IfOk-from_err c.from_residual-in_err-push_field.result _ c.from_residual-in_err-push_field.ensures.0;
      within = IfOk-from_err c.from_residual-in_err-push_field.result _ c.from_residual-in_err-push_field.ensures.0;
      limit = let p = err_from_is_err_and c.from_residual-in_err-push_field.result c.from_residual-in_err-push_field.ensures.1 in rw (p.1, p.2) (λ e. absurd (cc));
    }

pub overflow_add-builder : goal.overflow_add-builder
overflow_add-builder c = omega (arith, c.requires.small, c.scalars_in.ensures.one)

pub returns : goal.returns
returns c =
    let old = formed_all c.args.builder.now.fields.items in
    record {
      gone = same_front _ _
          (c.in_ok-push_field.ensures
          ∙ ap (λ (g : Linear). old ++ (record { field = c.args.field; first = c.args.first; size = c.args.size; end = g; number = number_by c.variable_at-variable.result }) ∷ []) c.in_ok-end.ensures.value
          ∙ ap (λ (g : Linear). old ++ (record { field = c.args.field; first = c.args.first; size = c.args.size; end = plus c.args.first c.args.size; number = g }) ∷ []) c.variable_at-variable.ensures)
          (ap (λ (k : ℕ). c.args.builder.now.scalar + k) c.scalars_in.ensures.value)
          refl refl c.in_ok-keep_place.ensures.firsts c.in_ok-keep_place.ensures.sizes refl;
      within = c.in_ok-end.ensures.low;
      limit = tt;
    }
