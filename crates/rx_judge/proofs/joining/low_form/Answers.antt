use Rattle.rx_types.specs.Tree.{tree_of, Binary}
use Rattle.rx_judge.proofs.Known.{low_stands, low_refused}
use Rattle.rx_judge.proofs.joining.low_form.Goals as goal

pub returns-then-not-is_low-clause-refusal : goal.returns-then-not-is_low-clause-refusal
returns-then-not-is_low-clause-refusal c = low_refused c.args.owner.now c.args.place c.in_ok-form.form (Binary c.args.operator (tree_of c.args.left.now.expr) (tree_of c.args.right.now.expr)) c.is_low.result c.in_ok-refused.field-0 c.in_ok-form.ensures c.is_low.ensures.test c.if-not-is_low.true c.in_ok-refused.ensures

pub returns-clause-meaning : goal.returns-clause-meaning
returns-clause-meaning c = low_stands c.args.owner.now c.args.place c.in_ok-form.form (Binary c.args.operator (tree_of c.args.left.now.expr) (tree_of c.args.right.now.expr)) c.is_low.result c.in_ok-form.ensures c.is_low.ensures.test c.if-not-is_low.false
