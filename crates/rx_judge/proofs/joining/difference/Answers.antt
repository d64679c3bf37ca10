use Rattle.rx_types.specs.Tree.{tree_of, Neg}
use Rattle.rx_judge.proofs.Forms.{sum_form, difference_form, negative_form, minus_low_form}
use Rattle.rx_judge.proofs.joining.difference.Goals as goal

pub sum-requires-clause-low_other : goal.sum-requires-clause-low_other
sum-requires-clause-low_other c = minus_low_form c.args.right.now.form c.in_ok-minus.minus c.args.right.now.known.is_low c.in_ok-minus.ensures.terms c.in_ok-minus.ensures.quotients

pub returns : goal.returns
returns c =
    let x = tree_of c.args.left.now.expr in
    let y = tree_of c.args.right.now.expr in
    let minus = negative_form c.args.right.now.form c.in_ok-minus.minus y c.args.right.now.known.has_form c.in_ok-minus.ensures.terms c.in_ok-minus.ensures.quotients in
    difference_form c.in_ok-form.form x y (sum_form c.args.left.now.form c.in_ok-minus.minus c.in_ok-form.form x (Neg y) c.args.left.now.known.has_form minus c.in_ok-form.ensures.terms c.in_ok-form.ensures.quotients)
