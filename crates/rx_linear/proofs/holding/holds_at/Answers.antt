use Rattle.std.proofs.Common.{arith}
use Rattle.std.proofs.lemmas.Int.{ints}
use Rattle.rx_linear.proofs.Loops.{halves}
use Rattle.rx_linear.proofs.holding.holds_at.Goals as goal

pub returns : goal.returns
returns c =
    let low = c.sum_of_products-low.ensures.bound in
    let high = c.sum_of_products-high.ensures.bound in
    let constant = c.requires.narrow.1 in
    let whole = halves c.args.row.now.coefficients c.as_slice-coefficients.result.now c.args.point.now c.sum_of_products-low.result c.sum_of_products-high.result c.as_slice-coefficients.ensures c.requires.same_length c.sum_of_products-low.ensures.value c.sum_of_products-high.ensures.value in
    (λ t. omega (arith, ints, whole, t), λ h. grind (arith, ints, whole, h))
