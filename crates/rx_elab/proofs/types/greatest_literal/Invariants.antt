use Rattle.std.proofs.Common.{◌≡◌, drop}
use Rattle.std.specs.Prelude.{max}
use Rattle.rx_types.specs.Domain.{greatest, numbers_of}
use Rattle.rx_elab.proofs.types.greatest_literal.Given as goal

abbrev pub invariant-loop-literal : goal.invariant-loop-literal
invariant-loop-literal l = greatest (numbers_of l.literals) ≡ max l.best (greatest (numbers_of (drop l.literal-index l.literals)))
