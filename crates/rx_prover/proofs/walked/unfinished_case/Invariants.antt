use Rattle.std.proofs.Common.{◌≡◌, ◌+◌, ◌-◌, ◌≤◌, ◌++◌, ◌∷◌, map, length, replicate}
use Rattle.rx_prover.specs.declared.tree.OpenTree as tree
use Rattle.rx_prover.specs.Trees.{as_tree}
use Rattle.rx_prover.proofs.walked.unfinished_case.Given as goal

abbrev pub invariant-loop : goal.invariant-loop
invariant-loop l = record {
  most : length l.proofs + 1 ≤ l.counter;
  within : l.counter ≤ l.count;
  whole : l.trees.items ≡ map as_tree l.proofs ++ l.fn.next ∷ replicate (l.counter - (length l.proofs + 1)) tree.Open;
}
