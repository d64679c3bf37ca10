use Rattle.std.proofs.Common.{◌≡◌, ◌++◌, drop}
use Rattle.rx_graph.specs.Graph.{arrows}
use Rattle.rx_forms.specs.PathLimit.{numbers_from}
use Rattle.rx_forms.proofs.within.numbers_of.Given as goal

-- the numbers so far, with those of the links that are left
abbrev pub invariant-loop-index : goal.invariant-loop-index
invariant-loop-index l = l.numbers.items ++ numbers_from l.node l.index (arrows (drop l.index l.links)) ≡ numbers_from l.node 0 l.message.graph.links
