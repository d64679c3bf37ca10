use Rattle.std.proofs.Common.{◌≡◌, ◌++◌, take, drop, map}
use Rattle.std.specs.Int.{int_div_euclid}
use Rattle.rx_linear.proofs.tightening.divide_each.Given as goal

abbrev pub invariant-loop-i : goal.invariant-loop-i
invariant-loop-i l = l.numbers ≡ map (λ z. int_div_euclid z l.divisor) (take l.i l.fn.numbers) ++ drop l.i l.fn.numbers
