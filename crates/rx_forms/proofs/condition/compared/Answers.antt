use Rattle.std.proofs.lemmas.Result.{err_from_is_err_and, IfOk-from_err}
use Rattle.rx_types.specs.Tree.{tree_of}
use Rattle.rx_forms.specs.Code.{formed_all, limits}
use Rattle.rx_forms.proofs.Facts
use Rattle.rx_forms.proofs.Numbers
use Rattle.rx_forms.proofs.Reaching.{fails_too}
use Rattle.rx_forms.proofs.condition.compared.Goals as goal

pub number_form-requires : goal.number_form-requires
number_form-requires c = record { numeric = c.requires.left.0; narrow = c.requires.left.1; room = c.requires.room }

pub number_form-requires-2-clause-numeric : goal.number_form-requires-2-clause-numeric
number_form-requires-2-clause-numeric c = c.requires.right.0

pub number_form-requires-2-clause-narrow : goal.number_form-requires-2-clause-narrow
number_form-requires-2-clause-narrow c = c.requires.right.1

pub number_form-requires-2-clause-room : goal.number_form-requires-2-clause-room
number_form-requires-2-clause-room c = Numbers.room_after (limits c.args.message.now) (formed_all c.args.fields.now) (tree_of c.args.left.now) _ _ c.in_ok-left.ensures.sum.goes

pub returns-in_err-left-clause-fact : goal.returns-in_err-left-clause-fact
returns-in_err-left-clause-fact c = IfOk-from_err c.from_residual.result _ c.from_residual.ensures.0

pub returns-in_err-left-clause-limit : goal.returns-in_err-left-clause-limit
returns-in_err-left-clause-limit c =
    let p = err_from_is_err_and c.from_residual.result c.from_residual.ensures.1 in
    rw (p.1, p.2) (λ e. Facts.comparison_left_fails (limits c.args.message.now) (formed_all c.args.fields.now) (tree_of c.args.left.now) (tree_of c.args.right.now) c.args.work.now.next (c.in_err-left.ensures.limit e))

pub returns-in_err-right-clause-fact : goal.returns-in_err-right-clause-fact
returns-in_err-right-clause-fact c = IfOk-from_err c.from_residual-in_err-right.result _ c.from_residual-in_err-right.ensures.0

pub returns-in_err-right-clause-limit : goal.returns-in_err-right-clause-limit
returns-in_err-right-clause-limit c =
    let p = err_from_is_err_and c.from_residual-in_err-right.result c.from_residual-in_err-right.ensures.1 in
    rw (p.1, p.2) (λ e. Facts.comparison_right_fails (limits c.args.message.now) (formed_all c.args.fields.now) (tree_of c.args.left.now) (tree_of c.args.right.now) _ _ c.in_ok-left.ensures.sum.goes (c.in_err-right.ensures.limit e))

pub returns-clause-fact : goal.returns-clause-fact
returns-clause-fact c =
    Facts.comparison_ok (limits c.args.message.now) (formed_all c.args.fields.now) c.args.operator c.args.wanted (tree_of c.args.left.now) (tree_of c.args.right.now) _ _ _ c.in_ok-left.left c.in_ok-right.right c.comparison.result c.in_ok-left.ensures.sum c.in_ok-right.ensures.sum c.comparison.ensures.value c.comparison.ensures.kept

pub returns-clause-limit : goal.returns-clause-limit
returns-clause-limit c =
    fails_too c.comparison.result _ _ (λ h. Facts.comparison_fails (limits c.args.message.now) (formed_all c.args.fields.now) (tree_of c.args.left.now) (tree_of c.args.right.now) _ _ _ c.in_ok-left.left c.in_ok-right.right c.in_ok-left.ensures.sum c.in_ok-right.ensures.sum h) c.comparison.ensures.limit
