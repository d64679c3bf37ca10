use Rattle.std.proofs.Common.{◌≡◌, ◌++◌, ◌+◌, drop, List, length}
use Rattle.rx_types.specs.Domain.{Domain}
use Rattle.rx_graph.specs.Graph.{Arrow, Graph}
use Rattle.rx_layout.specs.Listed.{pairs_with}
use Rattle.rx_layout.proofs.checklist.add_pairs_with.Given as goal

abbrev pub invariant-loop-second : goal.invariant-loop-second
invariant-loop-second l =
    (domains : List Domain) (m : Graph) (links : List Arrow) → length links ≡ l.count → l.goals.items ++ pairs_with domains m l.node l.«first» (l.second + 1) (drop l.second links) ≡ l.fn.goals.items ++ pairs_with domains m l.node l.«first» (l.«first» + 1) (drop l.«first» links)
