use Rattle.std.proofs.Common.{◌≡◌, map, take}
use Rattle.rx_graph.specs.Graph.{arrows}
use Rattle.rx_elab.specs.Parts.{message_parts_of}
use Rattle.rx_spec.specs.Arrows.{arrow_of_way}
use Rattle.rx_spec.proofs.arrows.links_made.Given as goal

abbrev pub invariant-loop-way : goal.invariant-loop-way
invariant-loop-way l = arrows l.links.items ≡ map (arrow_of_way l.name l.message (message_parts_of l.parts)) (take l.way-index l.ways)
