use Rattle.std.proofs.Common.{◌≡◌, refl, subst, List, true, false}
use Rattle.std.proofs.lemmas.Result.{err_from_is_err_and, IfOk-from_err}
use Rattle.rx_types.specs.Tree.{tree_of}
use Rattle.rx_graph.specs.Graph.{arrow_of}
use Rattle.rx_forms.specs.declared.field.FieldForms.{FieldForms}
use Rattle.rx_forms.specs.Limits.{is_within}
use Rattle.rx_forms.specs.Code.{formed_all, limits}
use Rattle.rx_forms.specs.Expressions.{HasFact}
use Rattle.rx_forms.specs.Fronts.{front_of}
use Rattle.rx_forms.proofs.Building.{end_goes, same_front}
use Rattle.rx_forms.proofs.builder.add_condition.Goals as goal

pub condition_form-requires-clause-condition : goal.condition_form-requires-clause-condition
condition_form-requires-clause-condition c = c.requires.condition

pub condition_form-requires-clause-narrow : goal.condition_form-requires-clause-narrow
condition_form-requires-clause-narrow c = c.requires.narrow

pub condition_form-requires-clause-room : goal.condition_form-requires-clause-room
condition_form-requires-clause-room c = c.requires.room

pub returns-in_err-fact : goal.returns-in_err-fact
returns-in_err-fact c =
    record {
      gone = IfOk-from_err c.from_residual.result _ c.from_residual.ensures.0;
      within = IfOk-from_err c.from_residual.result _ c.from_residual.ensures.0;
      limit = let p = err_from_is_err_and c.from_residual.result c.from_residual.ensures.1 in rw (p.1, p.2) (λ e. subst (λ (fs : List FieldForms). is_within (formed_all fs) c.args.builder.now.work.next (tree_of c.args.link.now.condition) ≡ false) c.as_slice.ensures.value (c.in_err-fact.ensures.limit e));
    }

pub returns-in_err-push : goal.returns-in_err-push
returns-in_err-push c =
    record {
      gone = IfOk-from_err c.from_residual-in_err-push.result _ c.from_residual-in_err-push.ensures.0;
      within = IfOk-from_err c.from_residual-in_err-push.result _ c.from_residual-in_err-push.ensures.0;
      limit = let p = err_from_is_err_and c.from_residual-in_err-push.result c.from_residual-in_err-push.ensures.1 in rw (p.1, p.2) (λ e. absurd (cc));
    }

pub returns : goal.returns
returns c =
    let limit = limits c.args.message.now in
    let w0 = c.args.builder.now.work in
    let w1 = c.condition_form.new.work in
    let f = c.in_ok-fact.fact in
    let link = arrow_of c.args.link.now in
    let p = subst (λ (fs : List FieldForms). HasFact limit (formed_all fs) true link.condition w0 w1 f) c.as_slice.ensures.value c.in_ok-fact.ensures.fact in
    record {
      gone = end_goes c.args.message.now.domains c.args.message.now.graph (front_of c.args.builder.now) _ link w0 w1 f refl refl p (same_front _ _ refl refl refl refl refl refl c.in_ok-push.ensures.ok);
      within = p.goes.within;
      limit = tt;
    }
