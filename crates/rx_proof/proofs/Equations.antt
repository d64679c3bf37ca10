-- What `accepted` is at each kind of proof.
use Rattle.std.proofs.Common.{◌≡◌, sym, ap, ◌∙◌, ℕ, Bool, ◌&&◌, ℤ, pos, ◌+ℤ◌, List, map}
use Rattle.std.specs.List.{slice_get}
use Rattle.rx_linear.specs.declared.step.Step.{Step}
use Rattle.rx_proof.specs.declared.proof.Proof.{Proof, Close, Halve, Case}
use Rattle.rx_proof.specs.declared.proof.Proof.TheVariants.{rolls-Close, rolls-Halve, rolls-Case}
use Rattle.rx_proof.specs.declared.proof.Proof.TheOpen.{Proof-F}
use Rattle.rx_proof.specs.declared.proof.Proof.TheFolds.{fold-roll-Proof}
use Rattle.rx_linear.specs.Units.{at_most, at_least}
use Rattle.rx_linear.specs.Steps.{if_some, closes}
use Rattle.rx_proof.specs.Acceptance.{Node, with_row, each_accepts, accepted, accepted_step, can_halve}

pub accepted_close : (steps : List Step) (node : Node) → accepted (Close steps) node ≡ closes node.rows steps
unfolding accepted
accepted_close steps node = ap (λ (p : Proof). accepted p node) (sym (rolls-Close steps)) ∙ ap (λ (f : Node → Bool). f node) (fold-roll-Proof (Node → Bool) accepted_step (Proof-F.Close steps))

pub accepted_halve : (x : ℕ) (c : ℤ) (low high : Proof) (node : Node) → accepted (Halve x c low high) node ≡ (can_halve node.variables x c && accepted low (with_row node (at_most node.variables x c)) && accepted high (with_row node (at_least node.variables x (c +ℤ pos 1))))
unfolding accepted
accepted_halve x c low high node = ap (λ (p : Proof). accepted p node) (sym (rolls-Halve x c low high)) ∙ ap (λ (f : Node → Bool). f node) (fold-roll-Proof (Node → Bool) accepted_step (Proof-F.Halve x c low high))

pub accepted_case : (i : ℕ) (proofs : List Proof) (node : Node) → accepted (Case i proofs) node ≡ if_some (slice_get node.either i) (λ branches. each_accepts node i (map accepted proofs) branches)
unfolding accepted
accepted_case i proofs node = ap (λ (p : Proof). accepted p node) (sym (rolls-Case i proofs)) ∙ ap (λ (f : Node → Bool). f node) (fold-roll-Proof (Node → Bool) accepted_step (Proof-F.Case i proofs))
