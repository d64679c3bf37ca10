use Rattle.rx_cycle.specs.Graph.{AreBelow}
use Rattle.rx_cycle.proofs.tests.first.Given as goal

abbrev pub invariant-loop-index : goal.invariant-loop-index
invariant-loop-index l = AreBelow l.nodes l.links.items
