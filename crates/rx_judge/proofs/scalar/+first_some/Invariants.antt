use Rattle.std.proofs.Common.{length}
use Rattle.rx_judge.proofs.scalar.+first_some.Given as goal

abbrev pub decreases-first_some : goal.decreases-first_some
decreases-first_some l = length l.sizes.now
