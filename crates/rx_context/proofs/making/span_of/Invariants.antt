use Rattle.rx_graph.specs.Graph.{arrows}
use Rattle.rx_context.proofs.Spans.{AreIn}
use Rattle.rx_context.proofs.making.span_of.Given as goal

-- the links of the node so far stand in the span
abbrev pub invariant-loop-index : goal.invariant-loop-index
invariant-loop-index l = AreIn (arrows l.links) l.node l.index l.span
