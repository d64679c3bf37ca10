use Rattle.std.proofs.Common.{◌≡◌, take}
use Rattle.rx_shadow.proofs.joined.copied.Given as goal

abbrev pub invariant-loop-k : goal.invariant-loop-k
invariant-loop-k l = l.copy.items ≡ take l.k-index l.known
