-- How the walk of a node ended, with its evidence.
--   node_of       the node of rows and open disjunctions
--   reached       how far the walk came
--   HasEvidence   the proof, the point or the tree is that of the node
--   Goes          the answer is that of the node's walk
--   IsLowerDone   the lower half of a halving is closed
use Rattle.std.specs.Prelude.{◌≡◌, ◌+◌, ◌≤◌, List, ℕ, ℤ, true, length}
use Rattle.rx_linear.specs.Systems.{LinearSystem}
use Rattle.rx_linear.specs.Joining.{all_hold}
use Rattle.rx_linear.specs.Units.{at_most}
use Rattle.rx_proof.specs.declared.query.Query.{Query}
use Rattle.rx_proof.specs.Queries.{each_satisfied}
use Rattle.rx_proof.specs.declared.proof.Proof.{Proof}
use Rattle.rx_proof.specs.Acceptance.{Node, with_row, can_halve}
use Rattle.rx_prover.specs.declared.answer.Answer.{Answer}
use Rattle.rx_prover.specs.declared.answer.Answer.TheVariants.{NoPoint, Point, Undecided}
use Rattle.rx_prover.specs.declared.walked.Walked.{Walked}
use Rattle.rx_prover.specs.declared.walked.Walked.TheVariants.{Closed, Found, Unfinished}
use Rattle.rx_prover.specs.Walk.{Reached, Past, AtPoint, Over, Halves, kind, walk_from}
use Rattle.rx_prover.specs.Answers.{IsClosed, IsProper}

abbrev pub node_of : LinearSystem → List (List Query) → Node
node_of system either = record { variables = system.variables; rows = system.rows; either = either }

-- a number for each variable, at which all rows hold and one branch of each open disjunction is satisfied
pub record IsPointAt (node : Node) (point : List ℤ) : Type 0 where
  pub whole : length point ≡ node.variables
  pub holds : all_hold point node.rows ≡ true
  pub satisfies : each_satisfied node.either point ≡ true

abbrev pub reached : Walked → Reached
reached (Closed proof left) = Past left
reached (Found point) = AtPoint
reached (Unfinished tree) = Over

abbrev pub HasEvidence : Node → ℕ → Walked → Type 0
HasEvidence node splits (Closed proof left) = IsClosed node splits proof left
HasEvidence node splits (Found point) = IsPointAt node point.items
HasEvidence node splits (Unfinished tree) = IsProper node splits tree

-- the walk of the node with so many splits ends so
pub record Goes (node : Node) (splits : ℕ) (walked : Walked) : Type 0 where
  pub ends : (depth : ℕ) → splits ≤ depth → walk_from depth node splits ≡ reached walked
  pub evidence : HasEvidence node splits walked

-- the node halves variable x at c, and the walk of the lower half is past its last leaf, with one split taken by the node itself
pub record IsLowerDone (node : Node) (x : ℕ) (c : ℤ) (splits : ℕ) (low : Proof) (left : ℕ) : Type 0 where
  pub halves : kind node ≡ Halves x c
  pub can : can_halve node.variables x c ≡ true
  pub less : ℕ
  pub one_taken : splits ≡ less + 1
  pub ends : (depth : ℕ) → less ≤ depth → walk_from depth (with_row node (at_most node.variables x c)) less ≡ Past left
  pub closed : IsClosed (with_row node (at_most node.variables x c)) less low left

-- the answer has the evidence with which the walk ended
abbrev pub AnswerOf : Walked → Answer → Type 0
AnswerOf (Closed proof left) answer = answer ≡ NoPoint proof
AnswerOf (Found point) answer = answer ≡ Point point
AnswerOf (Unfinished tree) answer = answer ≡ Undecided tree
