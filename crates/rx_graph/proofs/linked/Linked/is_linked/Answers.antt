use Rattle.std.proofs.Common.{subst}
use Rattle.rx_graph.specs.Elaborated.{IsElaboratedLink}
use Rattle.rx_graph.specs.Typed.{TypedLink}
use Rattle.rx_graph.proofs.linked.Linked.is_linked.Goals as goal

pub returns-clause-elaborated : goal.returns-clause-elaborated
returns-clause-elaborated c = let i = c.self.invariant in subst (λ (l : TypedLink). IsElaboratedLink l.domains l.graph l.arrow) c.self.view_is (i.known.elaborated.links i.place _ i.there)
