use Rattle.std.proofs.Common.{ℕ, ◌<◌, ◌≤◌, get_or}
use Rattle.rx_cycle.specs.declared.ends.Ends.{Ends}
use Rattle.rx_cycle.specs.Graph.{IsLink}
use Rattle.rx_cycle.proofs.rank.never_rise.Given as goal

abbrev pub invariant-loop-link : goal.invariant-loop-link
invariant-loop-link l = (k : ℕ) (link : Ends) → k < l.link-index → IsLink l.links k link → get_or l.ranks link.target 0 ≤ get_or l.ranks link.source 0
