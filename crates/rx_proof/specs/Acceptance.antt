-- Which proofs of a query are accepted.
--   Node             the variables, rows and open disjunctions at a place in a proof
--   root, entered, with_row    the query's own node, and the nodes below
--   accepted         a proof is accepted at a node
--   accepts_proof    a proof is accepted for a query
use Rattle.std.specs.Prelude.{List, [], ◌∷◌, ◌++◌, ℕ, ◌^◌, Bool, true, false, ◌&&◌, nat_lt, ℤ, pos, ◌+ℤ◌, unsigned_abs, slice_get}
use Rattle.std.specs.List.{remove}
use Rattle.rx_linear.specs.declared.row.Row.{Row}
use Rattle.rx_linear.specs.Joining.{joined}
use Rattle.rx_linear.specs.Units.{at_most, at_least}
use Rattle.rx_linear.specs.Steps.{closes, if_some}
use Rattle.rx_proof.specs.declared.query.Query.{Query, out-Query}
use Rattle.rx_proof.specs.declared.proof.Proof.{Proof}
use Rattle.rx_proof.specs.declared.proof.Proof.TheOpen.{Proof-F}
use Rattle.rx_proof.specs.declared.proof.Proof.TheFolds.{fold-Proof}

-- ---- nodes

pub record Node : Type 0 where
  pub variables : ℕ
  pub rows : List Row
  pub either : List (List Query)

-- a query's own node: its rows joined to nothing, and its disjunctions
abbrev pub root : Query → Node
root query = record {
  variables = (out-Query query).system.variables;
  rows = joined [] (out-Query query).system.rows;
  either = (out-Query query).either;
}

-- the node of one branch of disjunction i, which is taken out; the branch's own disjunctions are put at the end
abbrev pub entered : Node → ℕ → Query → Node
entered node i branch = record {
  variables = node.variables;
  rows = joined node.rows (out-Query branch).system.rows;
  either = remove node.either i ++ (out-Query branch).either;
}

-- the node with one row more
abbrev pub with_row : Node → Row → Node
with_row node row = record { variables = node.variables; rows = joined node.rows (row ∷ []); either = node.either }

-- ---- proofs

-- there is one proof for each branch, and each is accepted at the branch's node
abbrev pub each_accepts : Node → ℕ → List (Node → Bool) → List Query → Bool
each_accepts node i [] [] = true
each_accepts node i [] (branch ∷ branches) = false
each_accepts node i (proof ∷ proofs) [] = false
each_accepts node i (proof ∷ proofs) (branch ∷ branches) = proof (entered node i branch) && each_accepts node i proofs branches

-- x is a variable, and c and c + 1 are below 2^100 in magnitude
abbrev pub can_halve : ℕ → ℕ → ℤ → Bool
can_halve n x c = nat_lt x n && nat_lt (unsigned_abs c) (2 ^ 100) && nat_lt (unsigned_abs (c +ℤ pos 1)) (2 ^ 100)

-- one level of a proof, with each inner proof's answer at a node in its place
abbrev pub accepted_step : Proof-F (Node → Bool) → Node → Bool
accepted_step (Proof-F.Case i proofs) node = if_some (slice_get node.either i) (λ branches. each_accepts node i proofs branches)
accepted_step (Proof-F.Halve x c low high) node =
    can_halve node.variables x c && low (with_row node (at_most node.variables x c)) && high (with_row node (at_least node.variables x (c +ℤ pos 1)))
accepted_step (Proof-F.Close steps) node = closes node.rows steps

-- whether the proof is accepted at the node
unfoldable pub accepted : Proof → Node → Bool
accepted = fold-Proof (Node → Bool) accepted_step

-- x may be halved at c, and both proofs are accepted at their halves
abbrev pub halves_accepted : ℕ → ℤ → Proof → Proof → Node → Bool
halves_accepted x c low high node =
    can_halve node.variables x c && accepted low (with_row node (at_most node.variables x c)) && accepted high (with_row node (at_least node.variables x (c +ℤ pos 1)))

-- whether the proof is accepted for the query
abbrev pub accepts_proof : Query → Proof → Bool
accepts_proof query proof = accepted proof (root query)
