use Rattle.std.proofs.Common.{◌≡◌, ◌+◌, ◌-◌, ◌*◌, map, drop}
use Rattle.rx_prover.specs.Walked.{node_of}
use Rattle.rx_prover.proofs.Progress.{Progress}
use Rattle.rx_prover.proofs.walking.+walk.Given as goal

abbrev pub decreases-walk : goal.decreases-walk
decreases-walk l = 6 * l.splits + 4

abbrev pub decreases-walk_cases : goal.decreases-walk_cases
decreases-walk_cases l = 6 * l.splits + 2

abbrev pub decreases-walk_branch : goal.decreases-walk_branch
decreases-walk_branch l = 6 * l.splits + 5

abbrev pub decreases-walk_leaf : goal.decreases-walk_leaf
decreases-walk_leaf l = 6 * l.splits + 3

abbrev pub decreases-walk_halves : goal.decreases-walk_halves
decreases-walk_halves l = 6 * l.splits + 2

abbrev pub decreases-walk_upper : goal.decreases-walk_upper
decreases-walk_upper l = 6 * l.left + 6

abbrev pub decreases-walk_half : goal.decreases-walk_half
decreases-walk_half l = 6 * l.splits + 5

abbrev pub invariant-walk_cases-loop-branch : goal.invariant-walk_cases-loop-branch
invariant-walk_cases-loop-branch l = record {
  rows : l.rows ≡ l.fn.rows;
  pending : l.pending.items ≡ l.fn.pending.items;
  progress : Progress (node_of l.fn.rows (map (λ d. d.now) (drop l.next l.fn.pending.items))) l.branches l.branch-index (l.splits - 1) l.proofs.items l.left;
}
