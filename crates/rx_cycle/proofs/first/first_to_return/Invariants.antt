use Rattle.std.proofs.Common.{ℕ, ◌<◌}
use Rattle.rx_cycle.specs.Graph.{Returns}
use Rattle.rx_cycle.proofs.first.first_to_return.Given as goal

abbrev pub invariant-loop-index : goal.invariant-loop-index
invariant-loop-index l = (j : ℕ) → j < l.index → Returns l.links j → ⊥
