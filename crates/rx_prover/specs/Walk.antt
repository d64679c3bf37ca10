-- The walk of a query: depth first, branches in their order, the lower half first, with a budget of inner nodes.
--   kind       what a node is: a leaf without points, a leaf with one, a case of its first disjunction, or a halving
--   Reached    how far a walk came
--   walk       how the walk of a query ends
use Rattle.std.specs.Prelude.{List, [], ◌∷◌, ℕ, zero, suc, cond, ℤ, pos, ◌+ℤ◌, map}
use Rattle.rx_linear.specs.declared.row.Row.{Row}
use Rattle.rx_linear.specs.Units.{at_most, at_least}
use Rattle.rx_proof.specs.declared.query.Query.{Query}
use Rattle.rx_proof.specs.Acceptance.{Node, root, entered, with_row}
use Rattle.rx_shadow.specs.Bounds.{narrowest, middle}
use Rattle.rx_shadow.specs.Simple.{Outcome, Clash, TrueRows, Neither, outcome, clashes}

-- ---- nodes

-- a leaf without points, a leaf with one, a node with one child for each branch, or a node that halves a variable's values
pub data Kind : Type 0 where
  Empty : Kind
  Solved : Kind
  Cases : List Query → Kind
  Halves : ℕ → ℤ → Kind

-- without open disjunctions: by elimination where the rows are those of a Simple system, else the narrowest variable is halved
abbrev pub leaf_or_halves : ℕ → List Row → Outcome → Kind
leaf_or_halves n rows Clash = Empty
leaf_or_halves n rows TrueRows = Solved
leaf_or_halves n rows Neither = Halves (narrowest n rows) (middle (narrowest n rows) rows)

-- the first open disjunction is a case
abbrev pub cases_or_leaf : ℕ → List Row → List (List Query) → Kind
cases_or_leaf n rows [] = leaf_or_halves n rows (outcome n rows)
cases_or_leaf n rows (branches ∷ either) = Cases branches

abbrev pub kind : Node → Kind
kind node = cond (clashes node.variables node.rows) Empty (cases_or_leaf node.variables node.rows node.either)

-- the nodes of the branches of the first open disjunction
abbrev pub branch_nodes : Node → List Query → List Node
branch_nodes node branches = map (entered node 0) branches

-- the node where variable x is at most c, and the one where it is above
abbrev pub half_nodes : Node → ℕ → ℤ → List Node
half_nodes node x c = with_row node (at_most node.variables x c) ∷ with_row node (at_least node.variables x (c +ℤ pos 1)) ∷ []

-- ---- the walk

-- past the nodes so far, with some splits left; at a point; or at an inner node with no split left
pub data Reached : Type 0 where
  Past : ℕ → Reached
  AtPoint : Reached
  Over : Reached

-- the children one after another, each with the splits that are left
abbrev pub in_turn : (Node → ℕ → Reached) → List Node → Reached → Reached
in_turn walk [] so_far = so_far
in_turn walk (node ∷ nodes) (Past left) = in_turn walk nodes (walk node left)
in_turn walk (node ∷ nodes) AtPoint = AtPoint
in_turn walk (node ∷ nodes) Over = Over

-- an inner node takes a split, if there is one
abbrev pub with_split : ℕ → (ℕ → Reached) → Reached
with_split zero go = Over
with_split (suc left) go = go left

abbrev pub walk_kind : (Node → ℕ → Reached) → Node → ℕ → Kind → Reached
walk_kind walk node left Empty = Past left
walk_kind walk node left Solved = AtPoint
walk_kind walk node left (Cases branches) = with_split left (λ less. in_turn walk (branch_nodes node branches) (Past less))
walk_kind walk node left (Halves x c) = with_split left (λ less. in_turn walk (half_nodes node x c) (Past less))

-- at most `depth` inner nodes stand below one another; as many as there are splits will do
unfoldable pub walk_from : ℕ → Node → ℕ → Reached
walk_from zero node left = walk_kind (λ n l. Over) node left (kind node)
walk_from (suc depth) node left = walk_kind (walk_from depth) node left (kind node)

-- how the walk of the query with so many splits ends
abbrev pub walk : Query → ℕ → Reached
walk query splits = walk_from splits (root query) splits
