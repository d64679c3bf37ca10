use Rattle.std.proofs.Common.{length}
use Rattle.rx_cycle.proofs.Searching.{Following}
use Rattle.rx_cycle.proofs.reach.follow.Given as goal

abbrev pub decreases-loop-next : goal.decreases-loop-next
decreases-loop-next l = l.next

abbrev pub invariant-loop-next : goal.invariant-loop-next
invariant-loop-next l = Following l.links (length l.ways.last.items) l.fn.seen.items l.fn.waiting.items l.node l.next l.seen.items l.waiting.items
