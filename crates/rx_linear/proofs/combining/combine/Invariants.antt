use Rattle.std.proofs.Common.{◌≡◌, ◌++◌, drop}
use Rattle.rx_model.specs.Sums.{weighted_sum}
use Rattle.rx_linear.proofs.combining.combine.Given as goal

abbrev pub invariant-loop-i : goal.invariant-loop-i
invariant-loop-i l =
    l.coefficients.items ++ weighted_sum (drop l.i l.left_coefficients) l.left_times (drop l.i l.right_coefficients) l.right_times ≡ weighted_sum l.left_coefficients l.left_times l.right_coefficients l.right_times
