use Rattle.std.proofs.Common.{◌≡◌, drop}
use Rattle.serde_json.specs.View.{members_view}
use Rattle.rx_graph.specs.Graph.{domains_in, graph_of}
use Rattle.rx_values.specs.Valuation.{assigned}
use Rattle.rx_values.specs.Printing.{members_of, with_members}
use Rattle.rx_values.proofs.printing.members_of.Given as goal

-- the entries that are left go on from the members that there are
abbrev pub invariant-loop-entry : goal.invariant-loop-entry
invariant-loop-entry l =
    with_members (domains_in l.scalars) (graph_of l.message) (assigned (drop l.entry-index l.entries)) (members_view l.members.entries) ≡ members_of (domains_in l.scalars) (graph_of l.message) (assigned l.entries)
