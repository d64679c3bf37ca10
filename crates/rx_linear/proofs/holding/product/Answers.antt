use Rattle.std.proofs.Common.{◌<◌, ◌^◌, ◌*ℤ◌, arith, FitsSigned, unsigned_abs}
use Rattle.std.specs.Int.{w128}
use Rattle.std.proofs.lemmas.Int.{to_z-of_z}
use Rattle.rx_linear.proofs.Bounds.{product_fits, product_below}
use Rattle.rx_linear.proofs.holding.product.Goals as goal

pub returns-clause-value : goal.returns-clause-value
returns-clause-value c =
    let fa : FitsSigned w128 c.args.coefficient = c.ranges.coefficient in
    let fb : FitsSigned w128 c.args.number = c.ranges.number in
    let fs : FitsSigned w128 (c.args.coefficient *ℤ c.args.number) = product_fits c.args.number c.args.coefficient c.requires.number_small c.requires.coefficient_small in
    simp to_z-of_z

pub returns-clause-bound : goal.returns-clause-bound
returns-clause-bound c =
    let fa : FitsSigned w128 c.args.coefficient = c.ranges.coefficient in
    let fb : FitsSigned w128 c.args.number = c.ranges.number in
    let fs : FitsSigned w128 (c.args.coefficient *ℤ c.args.number) = product_fits c.args.number c.args.coefficient c.requires.number_small c.requires.coefficient_small in
    let h = product_below c.args.coefficient c.args.number (2 ^ 20) (2 ^ 100) c.requires.coefficient_small c.requires.number_small in
    let small : unsigned_abs (c.args.coefficient *ℤ c.args.number) < 2 ^ 120 = omega (arith, h) in
    simp to_z-of_z small
