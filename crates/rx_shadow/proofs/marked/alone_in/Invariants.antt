use Rattle.std.proofs.Common.{◌≡◌, pos, true, take}
use Rattle.std.specs.List.{list_all}
use Rattle.std.specs.Ordering.{int_eq}
use Rattle.rx_shadow.proofs.marked.alone_in.Given as goal

-- the coefficients before the variable are 0
abbrev pub invariant-loop-variable : goal.invariant-loop-variable
invariant-loop-variable l = list_all (λ c. int_eq c (pos 0)) (take l.variable l.row.coefficients) ≡ true
