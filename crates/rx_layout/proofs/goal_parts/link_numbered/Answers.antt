use Rattle.std.proofs.Common.{◌≡◌, refl, subst, List, Some, slice_get}
use Rattle.rx_graph.specs.Graph.{Arrow, arrow_of}
use Rattle.rx_layout.proofs.Checking.{link_in}
use Rattle.rx_layout.proofs.goal_parts.link_numbered.Goals as goal

pub returns-then-before-eq0-clause-is : goal.returns-then-before-eq0-clause-is
returns-then-before-eq0-clause-is c =
    let i = c.loop-link.link-index in
    let links = c.links-link-items.result.now in
    let there = link_in links links i c.link-item.result refl c.loop-link-test.true c.link-item.is in
    (i, subst (λ (ls : List Arrow). slice_get ls i ≡ Some (arrow_of c.link-item.result)) c.links-link-items.ensures.links there)
