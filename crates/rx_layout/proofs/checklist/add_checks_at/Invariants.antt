use Rattle.std.proofs.Common.{◌≡◌, ◌++◌, ◌+◌, ◌≤◌}
use Rattle.rx_layout.specs.Listed.{links_at, checks_from}
use Rattle.rx_layout.proofs.Checking.{left_of}
use Rattle.rx_layout.proofs.checklist.add_checks_at.Given as goal

abbrev pub invariant-loop-link : goal.invariant-loop-link
invariant-loop-link l = record {
  goals : l.goals.items ++ checks_from l.message.domains l.message.graph l.check l.node l.number (left_of l.node l.link-items l.link-index) ≡ l.fn.goals.items ++ checks_from l.message.domains l.message.graph l.check l.node 1 (links_at l.message.graph l.node);
  few : l.number ≤ l.link-index + 1;
}
