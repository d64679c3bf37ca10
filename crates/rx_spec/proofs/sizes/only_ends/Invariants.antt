use Rattle.std.proofs.Common.{◌≡◌, drop}
use Rattle.rx_graph.specs.Graph.{arrows}
use Rattle.rx_spec.specs.Sizes.{only_ends}
use Rattle.rx_spec.proofs.Ends.{ends_from}
use Rattle.rx_spec.proofs.sizes.only_ends.Given as goal

abbrev pub invariant-loop-link : goal.invariant-loop-link
invariant-loop-link l = only_ends (arrows l.links) l.index ≡ ends_from l.ends l.index (arrows (drop l.link-index l.links))
