use Rattle.std.proofs.Common.{◌≡◌, ◌++◌, drop}
use Rattle.rx_layout.specs.Listed.{links_at, checks_from, checks_of}
use Rattle.rx_layout.proofs.Checking.{goals_from}
use Rattle.rx_layout.proofs.checklist.add_checks.Given as goal

abbrev pub invariant-loop-field : goal.invariant-loop-field
invariant-loop-field l =
    l.goals.items ++ goals_from l.message.domains l.message.graph (λ node. checks_from l.message.domains l.message.graph l.check node 1 (links_at l.message.graph node)) l.field (drop l.field l.message.graph.fields)
    ≡ l.fn.goals.items ++ checks_of l.message.domains l.message.graph l.check
