use Rattle.std.proofs.Common.{◌≡◌, []}
use Rattle.serde_json.specs.View.{members_view}
use Rattle.rx_graph.specs.Graph.{domains_in, graph_of}
use Rattle.rx_values.specs.Reading.{values_from}
use Rattle.rx_values.proofs.reading.read_members.Given as goal

-- the members that are left go on from what there is
abbrev pub invariant-loop-key : goal.invariant-loop-key
invariant-loop-key l = values_from (domains_in l.scalars) (graph_of l.message) l.values (members_view l.key-iterator) ≡ values_from (domains_in l.scalars) (graph_of l.message) [] (members_view l.members.entries)
