-- What the folds over proofs and trees are at each variant.
use Rattle.std.proofs.Common.{◌≡◌, sym, ap, ◌∙◌, ℕ, ◌+◌, Bool, true, ◌&&◌, nat_le, ℤ, List, map, length, Option}
use Rattle.std.specs.List.{list_all}
use Rattle.rx_linear.specs.declared.step.Step.{Step}
use Rattle.rx_linear.specs.Steps.{closes}
use Rattle.rx_proof.specs.declared.proof.Proof.{Proof, Case, Halve, Close}
use Rattle.rx_proof.specs.declared.proof.Proof.TheVariants.{rolls-Close, rolls-Halve, rolls-Case}
use Rattle.rx_proof.specs.declared.proof.Proof.TheOpen.{Proof-F}
use Rattle.rx_proof.specs.declared.proof.Proof.TheFolds.{fold-roll-Proof}
use Rattle.rx_proof.specs.Acceptance.{Node}
use Rattle.rx_prover.specs.declared.tree.OpenTree.{OpenTree}
use Rattle.rx_prover.specs.declared.tree.OpenTree as tree
use Rattle.rx_prover.specs.declared.tree.OpenTree.TheVariants as rolls
use Rattle.rx_prover.specs.declared.tree.OpenTree.TheOpen.{OpenTree-F}
use Rattle.rx_prover.specs.declared.tree.OpenTree.TheFolds.{fold-roll-OpenTree}
use Rattle.rx_prover.specs.Walk.{kind}
use Rattle.rx_prover.specs.Trees.{as_tree, as_tree_step, total, inner_nodes, inner_nodes_step, has_few_steps, has_few_steps_step, Place, follow, follow_step, closed_leaf, case_node, halve_node, unreached}

pub as_tree_close : (steps : List Step) → as_tree (Close steps) ≡ tree.Close steps
unfolding as_tree
as_tree_close steps = ap as_tree (sym (rolls-Close steps)) ∙ fold-roll-Proof OpenTree as_tree_step (Proof-F.Close steps)

pub as_tree_halve : (x : ℕ) (c : ℤ) (low high : Proof) → as_tree (Halve x c low high) ≡ tree.Halve x c (as_tree low) (as_tree high)
unfolding as_tree
as_tree_halve x c low high = ap as_tree (sym (rolls-Halve x c low high)) ∙ fold-roll-Proof OpenTree as_tree_step (Proof-F.Halve x c low high)

pub as_tree_case : (i : ℕ) (proofs : List Proof) → as_tree (Case i proofs) ≡ tree.Case i (map as_tree proofs)
unfolding as_tree
as_tree_case i proofs = ap as_tree (sym (rolls-Case i proofs)) ∙ fold-roll-Proof OpenTree as_tree_step (Proof-F.Case i proofs)

pub nodes_close : (steps : List Step) → inner_nodes (tree.Close steps) ≡ 0
unfolding inner_nodes
nodes_close steps = ap inner_nodes (sym (rolls.rolls-Close steps)) ∙ fold-roll-OpenTree ℕ inner_nodes_step (OpenTree-F.Close steps)

pub nodes_open : inner_nodes tree.Open ≡ 0
unfolding inner_nodes
nodes_open = ap inner_nodes (sym rolls.rolls-Open) ∙ fold-roll-OpenTree ℕ inner_nodes_step OpenTree-F.Open

pub nodes_halve : (x : ℕ) (c : ℤ) (low high : OpenTree) → inner_nodes (tree.Halve x c low high) ≡ 1 + (inner_nodes low + inner_nodes high)
unfolding inner_nodes
nodes_halve x c low high = ap inner_nodes (sym (rolls.rolls-Halve x c low high)) ∙ fold-roll-OpenTree ℕ inner_nodes_step (OpenTree-F.Halve x c low high)

pub nodes_case : (i : ℕ) (trees : List OpenTree) → inner_nodes (tree.Case i trees) ≡ 1 + total (map inner_nodes trees)
unfolding inner_nodes
nodes_case i trees = ap inner_nodes (sym (rolls.rolls-Case i trees)) ∙ fold-roll-OpenTree ℕ inner_nodes_step (OpenTree-F.Case i trees)

pub few_close : (steps : List Step) → has_few_steps (tree.Close steps) ≡ nat_le (length steps) 524288
unfolding has_few_steps
few_close steps = ap has_few_steps (sym (rolls.rolls-Close steps)) ∙ fold-roll-OpenTree Bool has_few_steps_step (OpenTree-F.Close steps)

pub few_open : has_few_steps tree.Open ≡ true
unfolding has_few_steps
few_open = ap has_few_steps (sym rolls.rolls-Open) ∙ fold-roll-OpenTree Bool has_few_steps_step OpenTree-F.Open

pub few_halve : (x : ℕ) (c : ℤ) (low high : OpenTree) → has_few_steps (tree.Halve x c low high) ≡ (has_few_steps low && has_few_steps high)
unfolding has_few_steps
few_halve x c low high = ap has_few_steps (sym (rolls.rolls-Halve x c low high)) ∙ fold-roll-OpenTree Bool has_few_steps_step (OpenTree-F.Halve x c low high)

pub few_case : (i : ℕ) (trees : List OpenTree) → has_few_steps (tree.Case i trees) ≡ list_all (λ answer. answer) (map has_few_steps trees)
unfolding has_few_steps
few_case i trees = ap has_few_steps (sym (rolls.rolls-Case i trees)) ∙ fold-roll-OpenTree Bool has_few_steps_step (OpenTree-F.Case i trees)

pub follow_close : (steps : List Step) (node : Node) (place : Place) → follow (tree.Close steps) node place ≡ closed_leaf (kind node) (closes node.rows steps) place
unfolding follow
follow_close steps node place = ap (λ (t : OpenTree). follow t node place) (sym (rolls.rolls-Close steps)) ∙ ap (λ (f : Node → Place → Option Place). f node place) (fold-roll-OpenTree (Node → Place → Option Place) follow_step (OpenTree-F.Close steps))

pub follow_open : (node : Node) (place : Place) → follow tree.Open node place ≡ unreached (kind node) place
unfolding follow
follow_open node place = ap (λ (t : OpenTree). follow t node place) (sym rolls.rolls-Open) ∙ ap (λ (f : Node → Place → Option Place). f node place) (fold-roll-OpenTree (Node → Place → Option Place) follow_step OpenTree-F.Open)

pub follow_halve : (x : ℕ) (c : ℤ) (low high : OpenTree) (node : Node) (place : Place) → follow (tree.Halve x c low high) node place ≡ halve_node (kind node) node x c (follow low) (follow high) place
unfolding follow
follow_halve x c low high node place = ap (λ (t : OpenTree). follow t node place) (sym (rolls.rolls-Halve x c low high)) ∙ ap (λ (f : Node → Place → Option Place). f node place) (fold-roll-OpenTree (Node → Place → Option Place) follow_step (OpenTree-F.Halve x c low high))

pub follow_case : (i : ℕ) (trees : List OpenTree) (node : Node) (place : Place) → follow (tree.Case i trees) node place ≡ case_node (kind node) node i (map follow trees) place
unfolding follow
follow_case i trees node place = ap (λ (t : OpenTree). follow t node place) (sym (rolls.rolls-Case i trees)) ∙ ap (λ (f : Node → Place → Option Place). f node place) (fold-roll-OpenTree (Node → Place → Option Place) follow_step (OpenTree-F.Case i trees))
