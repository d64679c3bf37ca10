use Rattle.rx_judge.proofs.Each.{Sofar}
use Rattle.rx_links.specs.Links.{then_way}
use Rattle.rx_links.proofs.links.node_ways.Given as goal

abbrev pub invariant-loop-clause : goal.invariant-loop-clause
invariant-loop-clause l = Sofar (then_way l.table l.source) l.thens l.clause l.ways.items
