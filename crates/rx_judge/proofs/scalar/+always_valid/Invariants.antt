use Rattle.std.proofs.Common.{length}
use Rattle.rx_judge.proofs.scalar.+always_valid.Given as goal

abbrev pub decreases-always_valid : goal.decreases-always_valid
decreases-always_valid l = length l.aspects.now
