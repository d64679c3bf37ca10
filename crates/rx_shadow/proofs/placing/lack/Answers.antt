use Rattle.std.proofs.Common.{arith}
use Rattle.std.proofs.lemmas.Int.{ints}
use Rattle.rx_linear.proofs.Joining.{test-from_Holds}
use Rattle.rx_linear.proofs.Loops.{halves}
use Rattle.rx_shadow.proofs.placing.lack.Goals as goal

pub overflow_sub-result : goal.overflow_sub-result
overflow_sub-result c =
    let low = c.sum_of_products-low.ensures.bound in
    let high = c.sum_of_products-high.ensures.bound in
    let constant = c.requires.narrow.1 in
    let little = c.requires.little in
    let t = c.if-rest-high.false in
    let whole = halves c.args.row.now.coefficients c.as_slice-coefficients.result.now c.args.point.now c.sum_of_products-low.result c.sum_of_products-high.result c.as_slice-coefficients.ensures c.requires.same_length c.sum_of_products-low.ensures.value c.sum_of_products-high.ensures.value in
    omega (arith, ints, whole, t, little)

pub returns-then-rest-high : goal.returns-then-rest-high
returns-then-rest-high c =
    let low = c.sum_of_products-low.ensures.bound in
    let high = c.sum_of_products-high.ensures.bound in
    let constant = c.requires.narrow.1 in
    let t = c.if-rest-high.true in
    let whole = halves c.args.row.now.coefficients c.as_slice-coefficients.result.now c.args.point.now c.sum_of_products-low.result c.sum_of_products-high.result c.as_slice-coefficients.ensures c.requires.same_length c.sum_of_products-low.ensures.value c.sum_of_products-high.ensures.value in
    test-from_Holds c.args.point.now c.args.row.now (omega (arith, ints, whole, t))

pub returns-else-rest-high : goal.returns-else-rest-high
returns-else-rest-high c =
    let low = c.sum_of_products-low.ensures.bound in
    let high = c.sum_of_products-high.ensures.bound in
    let constant = c.requires.narrow.1 in
    let little = c.requires.little in
    let t = c.if-rest-high.false in
    let whole = halves c.args.row.now.coefficients c.as_slice-coefficients.result.now c.args.point.now c.sum_of_products-low.result c.sum_of_products-high.result c.as_slice-coefficients.ensures c.requires.same_length c.sum_of_products-low.ensures.value c.sum_of_products-high.ensures.value in
    (omega (arith, ints, whole, t, little), omega (arith, ints, whole, t, little))
