use Rattle.std.proofs.Common.{drop}
use Rattle.std.specs.List.{AllByRecursion}
use Rattle.rx_types.specs.Names.{IsName}
use Rattle.rx_encode.proofs.naming.literals_are_named.Given as goal

-- where those are named that are left, all are
abbrev pub invariant-loop-literal : goal.invariant-loop-literal
invariant-loop-literal l = AllByRecursion (λ x. IsName x.name) (drop l.literal-index l.literals) → AllByRecursion (λ x. IsName x.name) l.literals
