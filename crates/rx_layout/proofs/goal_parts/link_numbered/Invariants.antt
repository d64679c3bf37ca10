use Rattle.std.proofs.Common.{◌≡◌, slice_get}
use Rattle.rx_layout.specs.QueryOf.{link_numbered}
use Rattle.rx_layout.proofs.Checking.{left_of}
use Rattle.rx_layout.proofs.goal_parts.link_numbered.Given as goal

abbrev pub invariant-loop-link : goal.invariant-loop-link
invariant-loop-link l = slice_get (left_of l.node l.link-items l.link-index) l.before ≡ link_numbered l.message.graph l.node l.number
