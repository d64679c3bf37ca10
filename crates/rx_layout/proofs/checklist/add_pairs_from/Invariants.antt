use Rattle.std.proofs.Common.{◌≡◌, ◌++◌, ◌+◌, drop, List, length}
use Rattle.rx_types.specs.Domain.{Domain}
use Rattle.rx_graph.specs.Graph.{Arrow, Graph}
use Rattle.rx_layout.specs.Listed.{pairs_from}
use Rattle.rx_layout.proofs.checklist.add_pairs_from.Given as goal

abbrev pub invariant-loop-first : goal.invariant-loop-first
invariant-loop-first l =
    (domains : List Domain) (m : Graph) (links : List Arrow) → length links ≡ l.count → l.goals.items ++ pairs_from domains m l.node (l.«first» + 1) (drop l.«first» links) ≡ l.fn.goals.items ++ pairs_from domains m l.node 1 links
