use Rattle.std.proofs.Common.{length}
use Rattle.rx_cycle.proofs.rank.Walk.close.Given as goal

abbrev pub decreases-loop-member : goal.decreases-loop-member
decreases-loop-member l = length l.self.open.items
