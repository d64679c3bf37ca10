use Rattle.std.proofs.Common.{◌≡◌, ◌+◌, ◌*◌, map, drop}
use Rattle.rx_proof.specs.Room.{total}
use Rattle.rx_proof.specs.Acceptance.{accepted, each_accepts}
use Rattle.rx_proof.specs.Open.{node_of}
use Rattle.rx_proof.proofs.Nodes.{nodes}
use Rattle.rx_proof.proofs.accepting.+accept.Given as goal

abbrev pub decreases-accept : goal.decreases-accept
decreases-accept l = 4 * nodes l.proof.now

abbrev pub decreases-accept_halves : goal.decreases-accept_halves
decreases-accept_halves l = 4 * (nodes l.low.now + nodes l.high.now) + 2

abbrev pub decreases-accept_half : goal.decreases-accept_half
decreases-accept_half l = 4 * nodes l.proof.now + 1

abbrev pub decreases-accept_branches : goal.decreases-accept_branches
decreases-accept_branches l = 4 * total (map nodes l.proofs.now) + 3

abbrev pub decreases-accept_branch : goal.decreases-accept_branch
decreases-accept_branch l = 4 * nodes l.proof.now + 1

abbrev pub invariant-accept_branches-loop-i : goal.invariant-accept_branches-loop-i
invariant-accept_branches-loop-i l = record {
  kept : l.stack ≡ l.fn.stack;
  value : each_accepts (node_of l.fn.stack l.chain) l.place (map accepted (drop l.i l.proofs)) (drop l.i l.branches) ≡ each_accepts (node_of l.fn.stack l.chain) l.place (map accepted l.proofs) l.branches;
}
