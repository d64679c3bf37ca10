use Rattle.std.proofs.Common.{◌≡◌, take}
use Rattle.rx_graph.specs.Graph.{arrows}
use Rattle.rx_graph.proofs.message.copy_links.Given as goal

abbrev pub invariant-loop-link : goal.invariant-loop-link
invariant-loop-link l = arrows l.all.items ≡ arrows (take l.link-index l.links)
