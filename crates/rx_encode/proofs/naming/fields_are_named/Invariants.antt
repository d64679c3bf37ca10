use Rattle.std.proofs.Common.{drop}
use Rattle.std.specs.List.{AllByRecursion}
use Rattle.rx_types.specs.Names.{IsName}
use Rattle.rx_encode.proofs.naming.fields_are_named.Given as goal

-- where those are named that are left, all are
abbrev pub invariant-loop-field : goal.invariant-loop-field
invariant-loop-field l = AllByRecursion (λ f. IsName f.name) (drop l.field-index l.fields) → AllByRecursion (λ f. IsName f.name) l.fields
