use Rattle.std.proofs.Common.{◌≡◌, arith}
use Rattle.std.proofs.lemmas.Int.{ints}
use Rattle.rx_types.specs.Tree.{tree_of}
use Rattle.rx_judge.proofs.Known.{right_product}
use Rattle.rx_judge.proofs.Products.{passed}
use Rattle.rx_judge.proofs.joining.scaled_left.Goals as goal

pub returns : goal.returns
returns c =
    let l = c.args.left.now in
    let r = c.args.right.now in
    let a = r.known.short.low_above in
    let b = r.known.short.low_below in
    let e : passed r.about.interval.low ≡ r.about.interval.low = omega (arith, ints) in
    right_product l.about r.about l.form r.form c.in_ok-form.form (tree_of l.expr) (tree_of r.expr) (passed r.about.interval.low) l.known r.known c.requires.constant c.requires.linear e c.in_ok-form.ensures.terms c.in_ok-form.ensures.quotients
