use Rattle.std.proofs.Common.{◌≡◌, arith}
use Rattle.std.proofs.lemmas.Int.{ints}
use Rattle.rx_types.specs.Tree.{tree_of}
use Rattle.rx_judge.proofs.Known.{power_made, binary_made}
use Rattle.rx_judge.proofs.Products.{passed}
use Rattle.rx_judge.proofs.joining.joined.Goals as goal

pub invariant_of-result : goal.invariant_of-result
invariant_of-result c =
    let a = c.in_ok-about.about in
    let s = c.in_ok-about.ensures.short in
    let x = s.low_above in
    let y = s.low_below in
    let e : passed a.interval.low ≡ a.interval.low = omega (arith, ints) in
    record { known = power_made c.args.owner.now c.args.operator c.args.place c.args.left.about c.args.right.about a c.of_none.result (passed a.interval.low) c.in-None.is c.in_ok-about.ensures.meaning s c.of_none.ensures.terms c.of_none.ensures.quotients e }

pub invariant_of-result-in-Some : goal.invariant_of-result-in-Some
invariant_of-result-in-Some c =
    let l = c.args.left in
    let r = c.args.right in
    let f = c.in_ok-form-in-Some in
    record { known = binary_made c.args.owner.now c.args.operator c.in-Some.operator c.args.place l.about r.about c.in_ok-about.about l.form r.form f.form (tree_of l.expr) (tree_of r.expr) (tree_of c.in_ok-expr-in-Some.expr) c.in-Some.is c.in_ok-about.ensures.meaning l.known r.known f.ensures.form f.ensures.low c.in_ok-about.ensures.short c.in_ok-expr-in-Some.ensures }
