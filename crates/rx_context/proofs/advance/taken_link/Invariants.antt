use Rattle.std.proofs.Common.{◌≡◌, ℕ, ◌<◌}
use Rattle.rx_graph.specs.Graph.{Arrow, graph_of}
use Rattle.rx_graph.specs.Cycles.{IsLink}
use Rattle.rx_graph.specs.Paths.{IsTrue}
use Rattle.rx_context.proofs.advance.taken_link.Given as goal

-- no link of the node before this one is taken
abbrev pub invariant-loop-index : goal.invariant-loop-index
invariant-loop-index l = (k : ℕ) (link : Arrow) → k < l.index → IsLink (graph_of l.kept.message) k link → link.source ≡ l.at → IsTrue link l.env → ⊥
