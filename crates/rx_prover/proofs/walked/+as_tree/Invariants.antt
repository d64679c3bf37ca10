use Rattle.std.proofs.Common.{◌≡◌, map, take}
use Rattle.rx_prover.specs.Trees.{as_tree}
use Rattle.rx_prover.proofs.walked.+as_tree.Given as goal

abbrev pub invariant-as_trees-loop-proof : goal.invariant-as_trees-loop-proof
invariant-as_trees-loop-proof l = l.trees.items ≡ map as_tree (take l.proof-index l.proofs)
