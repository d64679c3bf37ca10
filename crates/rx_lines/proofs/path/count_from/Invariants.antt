use Rattle.std.proofs.Common.{◌≡◌, ◌+◌, ◌≤◌, drop}
use Rattle.std.specs.List.{count_by}
use Rattle.rx_graph.specs.Graph.{arrows}
use Rattle.rx_graph.specs.Checks.{is_node}
use Rattle.rx_lines.proofs.path.count_from.Given as goal

-- those that are left are counted on top
abbrev pub invariant-loop-link : goal.invariant-loop-link
invariant-loop-link l = record {
  left : l.count + count_by (λ a. is_node l.node a.source) (arrows (drop l.link-index l.links)) ≡ count_by (λ a. is_node l.node a.source) (arrows l.links);
  within : l.count ≤ l.link-index;
}
