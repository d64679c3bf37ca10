-- What `prove` answers.
--   IsClosed         a proof is that of a walk past all leaves
--   IsProper         a tree is that of a walk that ran out of splits
--   IsPointOf        a point of a query
--   AnswersReached   the answer by how the walk ends, with its evidence
--   AnswersWalk      the answer for a query with so many splits
--   IfNoPoint        what the answer NoPoint says of the query
use Rattle.std.specs.Prelude.{◌≡◌, ◌+◌, List, ℕ, ℤ, true, length, Some}
use Rattle.rx_proof.specs.declared.query.Query.{Query, out-Query}
use Rattle.rx_proof.specs.declared.proof.Proof.{Proof}
use Rattle.rx_proof.specs.Queries.{satisfied}
use Rattle.rx_proof.specs.Acceptance.{Node, root, accepted}
use Rattle.rx_prover.specs.declared.tree.OpenTree.{OpenTree}
use Rattle.rx_prover.specs.declared.answer.Answer.{Answer}
use Rattle.rx_prover.specs.declared.answer.Answer.TheVariants.{NoPoint, Point, Undecided}
use Rattle.rx_prover.specs.Walk.{Reached, Past, AtPoint, Over, walk}
use Rattle.rx_prover.specs.Trees.{as_tree, inner_nodes, has_few_steps, follow, Walking, Stopped}

-- the proof is accepted at the node and is that of its walk: with the splits that are left it has as many inner nodes as there were, and at most 524,288 steps at each leaf
pub record IsClosed (node : Node) (splits : ℕ) (proof : Proof) (left : ℕ) : Type 0 where
  pub is_accepted : accepted proof node ≡ true
  pub follows : follow (as_tree proof) node (Walking splits) ≡ Some (Walking left)
  pub counted : inner_nodes (as_tree proof) + left ≡ splits
  pub few_steps : has_few_steps (as_tree proof) ≡ true

-- the tree has exactly the first inner nodes of the node's walk, as many as there are splits, and the walk stops where one more is needed
pub record IsProper (node : Node) (splits : ℕ) (tree : OpenTree) : Type 0 where
  pub follows : follow tree node (Walking splits) ≡ Some Stopped
  pub counted : inner_nodes tree ≡ splits
  pub few_steps : has_few_steps tree ≡ true

-- a number for each variable, at which the query is satisfied
pub record IsPointOf (query : Query) (point : List ℤ) : Type 0 where
  pub whole : length point ≡ (out-Query query).system.variables
  pub satisfies : satisfied query point ≡ true

-- NoPoint where the walk comes past the last leaf, Point where it comes to one, and Undecided where it needs one inner node more than there are splits
abbrev pub AnswersReached : Query → ℕ → Answer → Reached → Type 0
AnswersReached query splits (NoPoint proof) (Past left) = IsClosed (root query) splits proof left
AnswersReached query splits (NoPoint proof) AtPoint = ⊥
AnswersReached query splits (NoPoint proof) Over = ⊥
AnswersReached query splits (Point point) (Past left) = ⊥
AnswersReached query splits (Point point) AtPoint = IsPointOf query point.items
AnswersReached query splits (Point point) Over = ⊥
AnswersReached query splits (Undecided tree) (Past left) = ⊥
AnswersReached query splits (Undecided tree) AtPoint = ⊥
AnswersReached query splits (Undecided tree) Over = IsProper (root query) splits tree

abbrev pub AnswersWalk : Query → ℕ → Answer → Type 0
AnswersWalk query splits answer = AnswersReached query splits answer (walk query splits)

-- no integer point satisfies the query
abbrev pub HasNoPoint : Query → Type 0
HasNoPoint query = (point : List ℤ) → satisfied query point ≡ true → ⊥

-- if the answer is NoPoint
abbrev pub IfNoPoint : Answer → Type 0 → Type 0
IfNoPoint (NoPoint proof) fact = fact
IfNoPoint (Point point) fact = Unit {0}
IfNoPoint (Undecided tree) fact = Unit {0}
