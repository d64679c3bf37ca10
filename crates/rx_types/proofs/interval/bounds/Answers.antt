use Rattle.std.proofs.Common.{◌≡◌, arith}
use Rattle.std.specs.Prelude.{◌+ℤ◌, ◌-ℤ◌}
use Rattle.std.proofs.lemmas.Int.{ints}
use Rattle.rx_types.proofs.Short.{passed}
use Rattle.rx_types.proofs.interval.bounds.Goals as goal

pub returns-in-Add-clause-interval : goal.returns-in-Add-clause-interval
returns-in-Add-clause-interval c =
    let l = c.args.left in
    let r = c.args.right in
    let e : passed (passed l.low +ℤ passed r.low) ≡ l.low +ℤ r.low = omega (arith, ints) in
    let f : passed (passed l.high +ℤ passed r.high) ≡ l.high +ℤ r.high = omega (arith, ints) in
    rw c.in-Add.is (rw (e, f) at c.within.ensures.interval)

pub returns-in-Sub-clause-interval : goal.returns-in-Sub-clause-interval
returns-in-Sub-clause-interval c =
    let l = c.args.left in
    let r = c.args.right in
    let e : passed (passed l.low -ℤ passed r.high) ≡ l.low -ℤ r.high = omega (arith, ints) in
    let f : passed (passed l.high -ℤ passed r.low) ≡ l.high -ℤ r.low = omega (arith, ints) in
    rw c.in-Sub.is (rw (e, f) at c.within-in-Sub.ensures.interval)
