use Rattle.std.proofs.Common.{◌≡◌, sym, ap, ◌∙◌, List, map}
use Rattle.rx_linear.specs.declared.step.Step.{Step}
use Rattle.rx_proof.specs.declared.proof.Proof.{Proof}
use Rattle.rx_shadow.proofs.Initial.{if_ok}
use Rattle.rx_prover.specs.declared.tree.OpenTree.{OpenTree}
use Rattle.rx_prover.specs.declared.tree.OpenTree as tree
use Rattle.rx_prover.specs.Trees.{as_tree}
use Rattle.rx_prover.proofs.Equations.{as_tree_close, as_tree_halve, as_tree_case}
use Rattle.rx_prover.proofs.walked.+as_tree.Goals as goal

pub as_tree-returns-in_ok-from_slice-in-Close : goal.as_tree-returns-in_ok-from_slice-in-Close
as_tree-returns-in_ok-from_slice-in-Close t c =
    ap (λ (steps : List Step). tree.Close steps) (c.in_ok-from_slice-in-Close.ensures ∙ c.as_slice.ensures)
    ∙ sym (ap as_tree c.in-Close.is ∙ as_tree_close c.in-Close.steps)

pub as_tree-returns-in_ok-high-in-Halve : goal.as_tree-returns-in_ok-high-in-Halve
as_tree-returns-in_ok-high-in-Halve t c =
    let whole = ap as_tree c.in-Halve.is ∙ as_tree_halve c.in-Halve.variable c.in-Halve.middle c.in-Halve.low c.in-Halve.high in
    let low = c.in_ok-low-in-Halve.ensures ∙ ap as_tree c.get.ensures in
    let high = c.in_ok-high-in-Halve.ensures ∙ ap as_tree c.get-in-Halve.ensures in
    if_ok c.halve_tree.result (λ x. x ≡ tree.Halve c.in-Halve.variable c.in-Halve.middle c.in_ok-low-in-Halve.low c.in_ok-high-in-Halve.high) (λ x. x ≡ as_tree c.args.proof.now)
    (λ x e. e
    ∙ ap (λ (y : OpenTree). tree.Halve c.in-Halve.variable c.in-Halve.middle y c.in_ok-high-in-Halve.high) low
    ∙ ap (λ (y : OpenTree). tree.Halve c.in-Halve.variable c.in-Halve.middle (as_tree c.in-Halve.low) y) high
    ∙ sym whole)
    c.halve_tree.ensures

pub as_tree-returns-in_ok-trees-in-Case : goal.as_tree-returns-in_ok-trees-in-Case
as_tree-returns-in_ok-trees-in-Case t c =
    ap (λ (ts : List OpenTree). tree.Case c.in-Case.place ts) (c.from_vec.ensures ∙ c.in_ok-trees-in-Case.ensures ∙ ap (λ (ps : List Proof). map as_tree ps) c.as_slice-in-Case.ensures)
    ∙ sym (ap as_tree c.in-Case.is ∙ as_tree_case c.in-Case.place c.in-Case.proofs)
