use Rattle.std.proofs.Common.{◌+◌, length}
use Rattle.std.specs.Prelude.{count_by, not}
use Rattle.rx_cycle.specs.Ways.{HasReached}
use Rattle.rx_cycle.proofs.reach.leads.Given as goal

abbrev pub decreases-loop-node : goal.decreases-loop-node
decreases-loop-node l = count_by not l.seen.items + length l.waiting.items

abbrev pub invariant-loop-node : goal.invariant-loop-node
invariant-loop-node l = HasReached l.links (length l.ways.last.items) l.from l.seen.items l.waiting.items l.from 0
