use Rattle.std.proofs.Common.{◌≡◌, ◌+◌, ◌≤◌, length}
use Rattle.rx_layout.specs.Listed.{links_at}
use Rattle.rx_layout.proofs.Checking.{left_of}
use Rattle.rx_layout.proofs.checklist.links_from.Given as goal

abbrev pub invariant-loop-link : goal.invariant-loop-link
invariant-loop-link l = record {
  told : l.count + length (left_of l.node l.link-items l.link-index) ≡ length (links_at l.message.graph l.node);
  few : l.count ≤ l.link-index;
}
