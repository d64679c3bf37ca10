use Rattle.std.proofs.Common.{length}
use Rattle.message_trials.proofs.formula.+covered.Given as goal

abbrev pub decreases-covered : goal.decreases-covered
decreases-covered l = length l.entries.now
