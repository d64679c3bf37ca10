use Rattle.std.proofs.Common.{◌≡◌, ◌++◌, drop, List}
use Rattle.rx_types.specs.Domain.{Domain}
use Rattle.rx_graph.specs.Graph.{Graph}
use Rattle.rx_layout.specs.Listed.{reached_from}
use Rattle.rx_layout.proofs.checklist.add_reached.Given as goal

abbrev pub invariant-loop-field : goal.invariant-loop-field
invariant-loop-field l = (domains : List Domain) (m : Graph) → l.goals.items ++ reached_from domains m l.field (drop l.field l.fields) ≡ l.fn.goals.items ++ reached_from domains m 0 l.fields
