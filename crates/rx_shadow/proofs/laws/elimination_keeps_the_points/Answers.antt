use Rattle.std.proofs.Common.{◌<◌, length, arith, pos, int_lt}
use Rattle.rx_linear.specs.Units.{coefficient, is_unit_row}
use Rattle.rx_shadow.specs.Simple.{positives}
use Rattle.rx_shadow.proofs.Gains.{eliminated_holds}
use Rattle.rx_shadow.proofs.Points.{some_row, any_filtered, unit_positive}
use Rattle.rx_shadow.proofs.Values.{eliminated_back}
use Rattle.rx_shadow.proofs.laws.elimination_keeps_the_points.Goals as goal

pub returns-clause-lost : goal.returns-clause-lost
returns-clause-lost c = λ n x rows point hx e f h. eliminated_holds n x point rows hx (let l : x < length point = omega (arith, hx, e) in l) f h

pub returns-clause-gained : goal.returns-clause-gained
returns-clause-gained c = λ n x rows point hx e exact lower h.
    eliminated_back n x rows point hx (let l : x < length point = omega (arith, hx, e) in l) exact
    (some_row (is_unit_row x (pos 1)) (positives x rows) (any_filtered (is_unit_row x (pos 1)) (λ row. int_lt (pos 0) (coefficient x row)) rows (unit_positive x) lower))
    h
