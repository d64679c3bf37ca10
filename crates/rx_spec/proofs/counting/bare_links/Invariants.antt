use Rattle.std.proofs.Common.{◌≡◌, map, take}
use Rattle.rx_graph.specs.Graph.{arrows}
use Rattle.rx_spec.specs.Shape.{bare_arrow}
use Rattle.rx_spec.proofs.counting.bare_links.Given as goal

abbrev pub invariant-loop-way : goal.invariant-loop-way
invariant-loop-way l = arrows l.links.items ≡ map (bare_arrow l.place) (take l.way-index l.ways)
