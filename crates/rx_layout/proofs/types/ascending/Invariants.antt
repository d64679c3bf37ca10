use Rattle.std.proofs.Common.{◌≡◌, ◌-◌, drop, length}
use Rattle.rx_types.specs.Domain.{numbers_of}
use Rattle.rx_layout.specs.Types.{ascending}
use Rattle.rx_layout.proofs.types.ascending.Given as goal

abbrev pub invariant-loop-behind : goal.invariant-loop-behind
invariant-loop-behind l = l.numbers.items ≡ ascending (numbers_of (drop (length l.literals - l.behind) l.literals))
