use Rattle.std.proofs.Common.{◌≡◌, take}
use Rattle.rx_types.proofs.scalar.copy_all.Given as goal

abbrev pub invariant-loop-literal : goal.invariant-loop-literal
invariant-loop-literal l = l.all.items ≡ take l.literal-index l.literals
