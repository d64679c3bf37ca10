-- How many steps proofs have: `steps_of`, `total_steps`.
use Rattle.std.specs.Prelude.{ℕ, ◌+◌, List, length, map, fold}
use Rattle.rx_proof.specs.declared.proof.Proof.{Proof}
use Rattle.rx_proof.specs.declared.proof.Proof.TheOpen.{Proof-F}
use Rattle.rx_proof.specs.declared.proof.Proof.TheFolds.{fold-Proof}

abbrev pub sum : List ℕ → ℕ
sum ns = fold (λ n k. n + k) 0 ns

-- one level of a proof, with the steps of each proof in it in its place
abbrev pub steps_in : Proof-F ℕ → ℕ
steps_in (Proof-F.Case i proofs) = sum proofs
steps_in (Proof-F.Halve x c low high) = low + high
steps_in (Proof-F.Close steps) = length steps

-- the steps of all its leaves
unfoldable pub steps_of : Proof → ℕ
steps_of = fold-Proof ℕ steps_in

abbrev pub total_steps : List Proof → ℕ
total_steps proofs = sum (map steps_of proofs)
