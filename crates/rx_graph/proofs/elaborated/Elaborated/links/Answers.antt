use Rattle.std.proofs.Common.{ap, length, arith}
use Rattle.rx_graph.proofs.Ways.{length-arrows}
use Rattle.rx_graph.proofs.elaborated.Elaborated.links.Goals as goal

pub returns-clause-few : goal.returns-clause-few
returns-clause-few c = omega (arith, ap length c.as_slice.ensures.value, length-arrows c.self.inside.message.now.links.items, c.self.invariant.elaborated.few_links)
