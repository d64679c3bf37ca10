use Rattle.std.proofs.Common.{drop, map}
use Rattle.std.specs.List.{AllByRecursion}
use Rattle.rx_types.specs.Domain.{domain_of}
use Rattle.rx_values.specs.Laws.{HasNames}
use Rattle.rx_encode.proofs.naming.types_are_named.Given as goal

-- where those are named that are left, all are
abbrev pub invariant-loop-scalar : goal.invariant-loop-scalar
invariant-loop-scalar l = AllByRecursion HasNames (map (λ x. domain_of x.kind) (drop l.scalar-index l.scalars)) → AllByRecursion HasNames (map (λ x. domain_of x.kind) l.scalars)
