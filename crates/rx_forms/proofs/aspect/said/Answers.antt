use Rattle.std.proofs.lemmas.Result.{err_from_is_err_and, IfOk-from_err}
use Rattle.rx_types.specs.Tree.{tree_of}
use Rattle.rx_forms.specs.Normal.{linear}
use Rattle.rx_forms.specs.Code.{formed_all, limits}
use Rattle.rx_forms.proofs.Aspects
use Rattle.rx_forms.proofs.aspect.said.Goals as goal

pub number_form-requires : goal.number_form-requires
number_form-requires c = record { numeric = c.requires.numeric; narrow = c.requires.narrow; room = c.requires.room }

pub returns-in_err-form : goal.returns-in_err-form
returns-in_err-form c =
    let p = err_from_is_err_and c.from_residual.result c.from_residual.ensures.1 in
    record {
      aspect = IfOk-from_err c.from_residual.result _ c.from_residual.ensures.0;
      limit = rw (p.1, p.2) (λ e. Aspects.said_part_fails (limits c.args.message.now) (formed_all c.args.fields.now) (tree_of c.args.expr.now) c.args.work.now.next (linear (formed_all c.args.fields.now) c.args.work.now.next (tree_of c.args.expr.now)) (c.in_err-form.ensures.limit e));
    }

pub returns-in_err-keep_low : goal.returns-in_err-keep_low
returns-in_err-keep_low c =
    let p = err_from_is_err_and c.from_residual-in_err-keep_low.result c.from_residual-in_err-keep_low.ensures.1 in
    record {
      aspect = IfOk-from_err c.from_residual-in_err-keep_low.result _ c.from_residual-in_err-keep_low.ensures.0;
      limit = rw (p.1, p.2) (λ e. Aspects.said_fails (limits c.args.message.now) (formed_all c.args.fields.now) (tree_of c.args.expr.now) _ _ c.in_ok-form.form c.in_ok-form.ensures.sum c.in_err-keep_low.ensures.limit);
    }

pub returns : goal.returns
returns c =
    record {
      aspect = λ otherwise. Aspects.said_works (limits c.args.message.now) (formed_all c.args.fields.now) (tree_of c.args.expr.now) otherwise _ _ c.in_ok-form.form c.in_ok-form.ensures.sum c.in_ok-keep_low.ensures.low;
      limit = tt;
    }
