use Rattle.std.proofs.Common.{◌≡◌, ◌++◌, ◌-◌, ◌≤◌, map, drop, length}
use Rattle.rx_graph.specs.Graph.{arrows}
use Rattle.rx_graph.specs.Onward.{onward, by_each}
use Rattle.rx_graph.proofs.enumerate.+extend.Given as goal

abbrev pub decreases-extend : goal.decreases-extend
decreases-extend l = l.more

-- what was added, with what the links that are left add, is what the node adds
abbrev pub invariant-loop-index : goal.invariant-loop-index
invariant-loop-index l =
    (l.paths.items ++ map (λ p. l.fn.path.items ++ p) (by_each (onward (arrows l.links) (l.more - 1) l.end) l.at l.index (arrows (drop l.index l.links))) ≡ l.fn.paths.items ++ map (λ p. l.fn.path.items ++ p) (onward (arrows l.links) l.more l.end l.at))
    × (l.path.items ≡ l.fn.path.items)
    × (length l.paths.items ≤ 4096)
