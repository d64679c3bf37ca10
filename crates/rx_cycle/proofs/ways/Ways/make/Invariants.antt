use Rattle.rx_cycle.proofs.Chains.{Listed}
use Rattle.rx_cycle.proofs.ways.Ways.make.Given as goal

abbrev pub invariant-loop-index : goal.invariant-loop-index
invariant-loop-index l = Listed l.links l.nodes l.index l.last.items l.previous.items
