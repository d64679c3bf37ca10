use Rattle.std.proofs.Common.{ap, ◌∙◌, ◌^◌, arith}
use Rattle.rx_linear.specs.Rows.{AllBelow}
use Rattle.rx_linear.specs.Divisors.{common_divisor_of}
use Rattle.rx_linear.proofs.Divisors.{divisor_below}
use Rattle.rx_linear.proofs.Tight.{divided_row_is_tight, whole_row_is_tight}
use Rattle.rx_linear.proofs.tightening.tightened.Goals as goal

pub divided-requires-clause-small : goal.divided-requires-clause-small
divided-requires-clause-small c =
    let small : AllBelow (2 ^ 41) c.as_slice.result.now = rw c.as_slice.ensures c.requires.0 in
    divisor_below c.as_slice.result.now c.common_divisor-divisor.result (2 ^ 41) (omega arith) small c.common_divisor-divisor.ensures.greatest

pub returns-then-divisor-gt1 : goal.returns-then-divisor-gt1
returns-then-divisor-gt1 c =
    divided_row_is_tight c.args.row c.divided.result c.common_divisor-divisor.result c.if-divisor-gt1.true (c.common_divisor-divisor.ensures.value ∙ ap common_divisor_of c.as_slice.ensures) c.divided.ensures.coefficients c.divided.ensures.least

pub returns-else-divisor-gt1 : goal.returns-else-divisor-gt1
returns-else-divisor-gt1 c =
    whole_row_is_tight c.args.row c.common_divisor-divisor.result (omega (arith, c.if-divisor-gt1.false)) (c.common_divisor-divisor.ensures.value ∙ ap common_divisor_of c.as_slice.ensures)
