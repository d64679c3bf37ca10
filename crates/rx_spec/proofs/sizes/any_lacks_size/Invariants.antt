use Rattle.std.proofs.Common.{◌≡◌, drop}
use Rattle.std.specs.List.{list_any}
use Rattle.rx_graph.specs.Graph.{arrows}
use Rattle.rx_spec.specs.Sizes.{lacks_size}
use Rattle.rx_spec.proofs.sizes.any_lacks_size.Given as goal

abbrev pub invariant-loop-link : goal.invariant-loop-link
invariant-loop-link l = list_any (lacks_size l.index) (arrows l.links) ≡ list_any (lacks_size l.index) (arrows (drop l.link-index l.links))
