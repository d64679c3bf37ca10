use Rattle.std.proofs.Common.{take}
use Rattle.rx_linear.specs.Divisors.{IsGreatestCommonDivisor}
use Rattle.rx_linear.proofs.tightening.common_divisor.Given as goal

abbrev pub invariant-loop-coefficient : goal.invariant-loop-coefficient
invariant-loop-coefficient l = IsGreatestCommonDivisor (take l.coefficient-index l.coefficients) l.divisor
