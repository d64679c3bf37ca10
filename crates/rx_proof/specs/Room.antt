-- How many rows a proof's check may need at one time.
--   weight        of a query: its rows and disjunctions, at all depths
--   depth         of a proof: the greatest number of rows that one path down to a leaf adds
--   HasRoom       a stack has room for a query and a proof
use Rattle.std.specs.Prelude.{◌≡◌, ◌+◌, ◌≤◌, ◌<◌, ◌^◌, List, [], ◌∷◌, ℕ, max, map, length}
use Rattle.rx_linear.specs.Cells.{Stacked}
use Rattle.rx_proof.specs.declared.query.Query.{Query, out-Query}
use Rattle.rx_proof.specs.declared.query.Query.TheOpen.{Query-F}
use Rattle.rx_proof.specs.declared.query.Query.TheFolds.{fold-Query}
use Rattle.rx_proof.specs.declared.proof.Proof.{Proof}
use Rattle.rx_proof.specs.declared.proof.Proof.TheOpen.{Proof-F}
use Rattle.rx_proof.specs.declared.proof.Proof.TheFolds.{fold-Proof}

abbrev pub total : List ℕ → ℕ
total [] = 0
total (n ∷ ns) = n + total ns

abbrev pub greatest_of : List ℕ → ℕ
greatest_of [] = 0
greatest_of (n ∷ ns) = max n (greatest_of ns)

-- one level, with each branch's weight in its place
abbrev pub weight_step : Query-F ℕ → ℕ
weight_step level = length level.system.rows + length level.either + total (map total level.either)

-- the rows of the query and of all queries in it, and their disjunctions
unfoldable pub weight : Query → ℕ
weight = fold-Query ℕ weight_step

-- the weight of all branches
abbrev pub open_weight : List (List Query) → ℕ
open_weight either = total (map (λ branches. total (map weight branches)) either)

-- one level, with each inner proof's depth in its place
abbrev pub depth_step : Proof-F ℕ → ℕ
depth_step (Proof-F.Case i proofs) = greatest_of proofs
depth_step (Proof-F.Halve x c low high) = 1 + max low high
depth_step (Proof-F.Close steps) = length steps

-- the greatest number of rows that halves and steps add on one path down the proof
unfoldable pub depth : Proof → ℕ
depth = fold-Proof ℕ depth_step

-- a stack over the query's variables that has room for what the query and the proof add at one time
abbrev pub HasRoom : Stacked → Query → Proof → Type 0
HasRoom stack query proof = (stack.variables ≡ (out-Query query).system.variables) × (weight query + depth proof ≤ stack.limit) × (stack.limit < 2 ^ 64)
