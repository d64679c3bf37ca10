use Rattle.std.proofs.Common.{◌≡◌, ◌++◌, drop, List}
use Rattle.rx_types.specs.Domain.{Domain}
use Rattle.rx_layout.specs.Listed.{links_at, pairs_from, pairs_of}
use Rattle.rx_layout.proofs.Checking.{goals_from}
use Rattle.rx_layout.proofs.checklist.add_pairs.Given as goal

abbrev pub invariant-loop-field : goal.invariant-loop-field
invariant-loop-field l =
    (domains : List Domain) → l.goals.items ++ goals_from domains l.message.graph (λ node. pairs_from domains l.message.graph node 1 (links_at l.message.graph node)) l.field (drop l.field l.message.graph.fields)
    ≡ l.fn.goals.items ++ pairs_of domains l.message.graph
