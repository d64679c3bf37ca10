use Rattle.std.proofs.Common.{◌≤◌, ◌^◌, arith}
use Rattle.std.proofs.lemmas.Bool.Decides.{nat_tests}
use Rattle.std.proofs.Math.Pow.{pow_mono}
use Rattle.rx_types.proofs.scalar.fits.Goals as goal

pub returns-then-size-ge64 : goal.returns-then-size-ge64
returns-then-size-ge64 c =
    let wide : 64 ≤ c.args.size = c.if-size-ge64.true in
    let p : 2 ^ 64 ≤ 2 ^ c.args.size = pow_mono wide in
    (λ _. omega (arith, c.ranges.number.fits), λ _. grind (arith, nat_tests))
