-- The steps of each kind of proof.
use Rattle.std.proofs.Common.{◌≡◌, sym, ap, ◌∙◌, ℕ, ◌+◌, ◌<◌, ℤ, List, map, length, get_or, drop}
use Rattle.std.proofs.lemmas.List.{drop_more}
use Rattle.std.proofs.lemmas.List.Sums.{sum_by-cons}
use Rattle.rx_linear.specs.declared.step.Step.{Step}
use Rattle.rx_proof.specs.declared.proof.Proof.{Proof, Close, Halve, Case}
use Rattle.rx_proof.specs.declared.proof.Proof.TheVariants.{rolls-Close, rolls-Halve, rolls-Case}
use Rattle.rx_proof.specs.declared.proof.Proof.TheOpen.{Proof-F}
use Rattle.rx_proof.specs.declared.proof.Proof.TheFolds.{fold-roll-Proof}
use Rattle.rx_checks.specs.Steps.{steps_in, steps_of, total_steps}

pub steps_close : (steps : List Step) → steps_of (Close steps) ≡ length steps
unfolding steps_of
steps_close steps = ap steps_of (sym (rolls-Close steps)) ∙ fold-roll-Proof ℕ steps_in (Proof-F.Close steps)

pub steps_halve : (x : ℕ) (c : ℤ) (low high : Proof) → steps_of (Halve x c low high) ≡ steps_of low + steps_of high
unfolding steps_of
steps_halve x c low high = ap steps_of (sym (rolls-Halve x c low high)) ∙ fold-roll-Proof ℕ steps_in (Proof-F.Halve x c low high)

pub steps_case : (i : ℕ) (proofs : List Proof) → steps_of (Case i proofs) ≡ total_steps proofs
unfolding steps_of
steps_case i proofs = ap steps_of (sym (rolls-Case i proofs)) ∙ fold-roll-Proof ℕ steps_in (Proof-F.Case i proofs)

-- one proof more
pub total_more : (proofs : List Proof) (i : ℕ) (proof : Proof) → i < length proofs → proof ≡ get_or proofs i proof → total_steps (drop i proofs) ≡ steps_of proof + total_steps (drop (i + 1) proofs)
total_more proofs i proof within is =
    ap total_steps (drop_more proofs i proof within)
    ∙ sum_by-cons (λ n. n) (steps_of (get_or proofs i proof)) (map steps_of (drop (i + 1) proofs))
    ∙ ap (λ (p : Proof). steps_of p + total_steps (drop (i + 1) proofs)) (sym is)
