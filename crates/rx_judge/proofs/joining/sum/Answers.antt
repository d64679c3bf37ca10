use Rattle.rx_types.specs.Tree.{tree_of}
use Rattle.rx_judge.proofs.Forms.{sum_form}
use Rattle.rx_judge.proofs.joining.sum.Goals as goal

pub returns : goal.returns
returns c = sum_form c.args.left.now.form c.args.right.now.form c.in_ok-form.form (tree_of c.args.left.now.expr) (tree_of c.args.right.now.expr) c.args.left.now.known.has_form c.args.right.now.known.has_form c.in_ok-form.ensures.terms c.in_ok-form.ensures.quotients
