use Rattle.std.proofs.Common.{◌≡◌, ◌+◌, drop, map}
use Rattle.rx_proof.specs.Room.{weight, total, open_weight}
use Rattle.rx_proof.proofs.desk.+weight.Given as goal

abbrev pub invariant-branch_weight-loop-branch : goal.invariant-branch_weight-loop-branch
invariant-branch_weight-loop-branch l = l.sum + total (map weight (drop l.branch-index l.branches)) ≡ total (map weight l.branches)

abbrev pub invariant-weight-loop-branches : goal.invariant-weight-loop-branches
invariant-weight-loop-branches l = l.sum + open_weight (drop l.branches-index l.branches-items) ≡ l.own + open_weight l.branches-items
