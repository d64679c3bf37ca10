use Rattle.std.proofs.Common.{◌≡◌, drop, max}
use Rattle.rx_types.specs.Domain.{greatest, numbers_of}
use Rattle.rx_forms.proofs.interval.greatest_literal.Given as goal

abbrev pub invariant-loop-literal : goal.invariant-loop-literal
invariant-loop-literal l = max l.most (greatest (numbers_of (drop l.literal-index l.literals))) ≡ greatest (numbers_of l.literals)
