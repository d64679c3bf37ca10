-- The trees that a walk leaves.
--   as_tree        a proof, as such a tree
--   inner_nodes    how many cases and halvings a tree has
--   has_few_steps  each closed leaf has at most 524,288 steps
--   follow         a tree is read along the walk of a node
use Rattle.std.specs.Prelude.{List, [], ◌∷◌, ◌+◌, ℕ, zero, suc, Bool, true, false, cond, ◌&&◌, ◌==◌, nat_le, ℤ, Option, Some, None, length}
use Rattle.std.specs.List.{list_all}
use Rattle.std.specs.Ordering.{int_eq}
use Rattle.rx_linear.specs.Steps.{closes}
use Rattle.rx_proof.specs.declared.proof.Proof.{Proof}
use Rattle.rx_proof.specs.declared.proof.Proof.TheOpen.{Proof-F}
use Rattle.rx_proof.specs.declared.proof.Proof.TheFolds.{fold-Proof}
use Rattle.rx_proof.specs.Acceptance.{Node}
use Rattle.rx_prover.specs.declared.tree.OpenTree.{OpenTree}
use Rattle.rx_prover.specs.declared.tree.OpenTree as tree
use Rattle.rx_prover.specs.declared.tree.OpenTree.TheOpen.{OpenTree-F}
use Rattle.rx_prover.specs.declared.tree.OpenTree.TheFolds.{fold-OpenTree}
use Rattle.rx_prover.specs.Walk.{Kind, Empty, Solved, Cases, Halves, kind, branch_nodes, half_nodes}

-- ---- sizes

abbrev pub as_tree_step : Proof-F OpenTree → OpenTree
as_tree_step (Proof-F.Case i trees) = tree.Case i trees
as_tree_step (Proof-F.Halve x c low high) = tree.Halve x c low high
as_tree_step (Proof-F.Close steps) = tree.Close steps

-- the same cases, halvings and closed leaves
unfoldable pub as_tree : Proof → OpenTree
as_tree = fold-Proof OpenTree as_tree_step

abbrev pub total : List ℕ → ℕ
total [] = 0
total (n ∷ ns) = n + total ns

abbrev pub inner_nodes_step : OpenTree-F ℕ → ℕ
inner_nodes_step (OpenTree-F.Case i counts) = 1 + total counts
inner_nodes_step (OpenTree-F.Halve x c low high) = 1 + (low + high)
inner_nodes_step (OpenTree-F.Close steps) = 0
inner_nodes_step OpenTree-F.Open = 0

-- how many cases and halvings the tree has
unfoldable pub inner_nodes : OpenTree → ℕ
inner_nodes = fold-OpenTree ℕ inner_nodes_step

abbrev pub has_few_steps_step : OpenTree-F Bool → Bool
has_few_steps_step (OpenTree-F.Case i answers) = list_all (λ answer. answer) answers
has_few_steps_step (OpenTree-F.Halve x c low high) = low && high
has_few_steps_step (OpenTree-F.Close steps) = nat_le (length steps) 524288
has_few_steps_step OpenTree-F.Open = true

-- whether each closed leaf has at most 524,288 steps
unfoldable pub has_few_steps : OpenTree → Bool
has_few_steps = fold-OpenTree Bool has_few_steps_step

-- ---- proper trees

-- a tree is read along the walk: with splits left, or after the walk has stopped
pub data Place : Type 0 where
  Walking : ℕ → Place
  Stopped : Place

-- the trees of the children one after another; `None` where one is no tree of the walk, or where there are not as many
abbrev pub follow_each : List (Node → Place → Option Place) → List Node → Option Place → Option Place
follow_each trees nodes None = None
follow_each [] [] (Some place) = Some place
follow_each [] (node ∷ nodes) (Some place) = None
follow_each (tree ∷ trees) [] (Some place) = None
follow_each (tree ∷ trees) (node ∷ nodes) (Some place) = follow_each trees nodes (tree node place)

-- an inner node takes a split, and has none after the walk has stopped
abbrev pub inner : Place → (ℕ → Option Place) → Option Place
inner Stopped go = None
inner (Walking zero) go = None
inner (Walking (suc left)) go = go left

abbrev pub is_inner : Kind → Bool
is_inner Empty = false
is_inner Solved = false
is_inner (Cases branches) = true
is_inner (Halves x c) = true

-- nothing is recorded at the inner node without a split left, where the walk stops, and after it
abbrev pub unreached : Kind → Place → Option Place
unreached kind Stopped = Some Stopped
unreached kind (Walking zero) = cond (is_inner kind) (Some Stopped) None
unreached kind (Walking (suc left)) = None

-- a leaf without points has steps that close it
abbrev pub closed_leaf : Kind → Bool → Place → Option Place
closed_leaf Empty accepted (Walking left) = cond accepted (Some (Walking left)) None
closed_leaf Empty accepted Stopped = None
closed_leaf Solved accepted place = None
closed_leaf (Cases branches) accepted place = None
closed_leaf (Halves x c) accepted place = None

-- a case is of the first open disjunction, with a tree for each branch
abbrev pub case_node : Kind → Node → ℕ → List (Node → Place → Option Place) → Place → Option Place
case_node Empty node i trees place = None
case_node Solved node i trees place = None
case_node (Cases branches) node i trees place = inner place (λ left. cond (i == 0) (follow_each trees (branch_nodes node branches) (Some (Walking left))) None)
case_node (Halves x c) node i trees place = None

-- a halving is of the narrowest variable at its middle, the lower half first
abbrev pub halve_node : Kind → Node → ℕ → ℤ → (Node → Place → Option Place) → (Node → Place → Option Place) → Place → Option Place
halve_node Empty node y d low high place = None
halve_node Solved node y d low high place = None
halve_node (Cases branches) node y d low high place = None
halve_node (Halves x c) node y d low high place =
    inner place (λ left. cond (x == y && int_eq c d) (follow_each (low ∷ high ∷ []) (half_nodes node x c) (Some (Walking left))) None)

abbrev pub follow_step : OpenTree-F (Node → Place → Option Place) → Node → Place → Option Place
follow_step (OpenTree-F.Case i trees) node place = case_node (kind node) node i trees place
follow_step (OpenTree-F.Halve x c low high) node place = halve_node (kind node) node x c low high place
follow_step (OpenTree-F.Close steps) node place = closed_leaf (kind node) (closes node.rows steps) place
follow_step OpenTree-F.Open node place = unreached (kind node) place

-- where the walk of the node comes to if it goes as the tree records; `None` where the tree is not of that walk
unfoldable pub follow : OpenTree → Node → Place → Option Place
follow = fold-OpenTree (Node → Place → Option Place) follow_step
