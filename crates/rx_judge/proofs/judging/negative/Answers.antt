use Rattle.std.proofs.Common.{◌≡◌, refl, arith}
use Rattle.std.proofs.lemmas.Int.{ints}
use Rattle.rx_types.specs.Narrow.{negation}
use Rattle.rx_types.specs.Tree.{tree_of}
use Rattle.rx_judge.specs.declared.about.About.{About}
use Rattle.rx_judge.proofs.Known.{negative_known}
use Rattle.rx_judge.proofs.Products.{passed}
use Rattle.rx_judge.proofs.judging.negative.Goals as goal

pub invariant_of-result : goal.invariant_of-result
invariant_of-result c =
    let p = c.args.part in
    let s = p.known.short in
    let w = s.low_above in
    let x = s.low_below in
    let y = s.high_above in
    let z = s.high_below in
    let e : passed p.about.interval.low ≡ p.about.interval.low = omega (arith, ints) in
    let f : passed p.about.interval.high ≡ p.about.interval.high = omega (arith, ints) in
    let i : c.negation-interval.result ≡ negation p.about.interval = rw (e, f) at c.negation-interval.ensures.interval in
    let a : About = record { kind = p.about.kind; is_static = p.about.is_static; is_literal = p.about.is_literal; is_constant = p.about.is_constant; interval = c.negation-interval.result } in
    record { known = negative_known p.about a p.form c.in_ok-form.form (tree_of p.expr) (tree_of c.in_ok-expr.expr) p.known i refl refl c.negation-interval.ensures.short c.in_ok-form.ensures.terms c.in_ok-form.ensures.quotients c.in_ok-expr.ensures }
