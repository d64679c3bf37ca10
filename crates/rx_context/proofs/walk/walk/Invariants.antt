use Rattle.std.proofs.Common.{◌≡◌, ◌-◌, length}
use Rattle.rx_context.specs.Plan.{planned}
use Rattle.rx_context.proofs.OnPath.{AreOnPath}
use Rattle.rx_context.proofs.walk.walk.Given as goal

abbrev pub invariant-loop-entry : goal.invariant-loop-entry
invariant-loop-entry l = record {
  total : l.env.total ≡ length l.bytes;
  on : AreOnPath (planned l.kept) l.bytes l.env.fields l.at;
}

abbrev pub decreases-loop-entry : goal.decreases-loop-entry
decreases-loop-entry l = 129 - length l.env.fields
