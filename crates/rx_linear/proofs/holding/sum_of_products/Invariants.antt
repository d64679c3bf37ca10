use Rattle.std.proofs.Common.{◌≡◌, ◌*◌, ◌^◌, ◌≤◌, ◌+ℤ◌, drop, unsigned_abs}
use Rattle.rx_model.specs.Sums.{product_sum}
use Rattle.rx_linear.proofs.holding.sum_of_products.Given as goal

abbrev pub invariant-loop-i : goal.invariant-loop-i
invariant-loop-i l = record {
  value : l.sum +ℤ product_sum (drop l.i l.coefficients) (drop l.i l.point) ≡ product_sum l.coefficients l.point;
  bound : unsigned_abs l.sum ≤ l.i * 2 ^ 120;
}
