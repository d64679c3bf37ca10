-- The leaves of a walk.
use Rattle.std.proofs.Common.{◌≡◌, sym, ap, ◌∙◌, subst, ℕ, ◌≤◌, arith, List, Bool, true, cond, nat_le, ℤ, length, Some, None, Vec, Global}
use Rattle.rx_linear.specs.declared.step.Step.{Step}
use Rattle.rx_linear.specs.Steps.{closes}
use Rattle.rx_proof.specs.declared.proof.Proof.{Proof, Close}
use Rattle.rx_proof.specs.Acceptance.{Node}
use Rattle.rx_proof.proofs.Equations.{accepted_close}
use Rattle.rx_prover.specs.declared.tree.OpenTree.{OpenTree}
use Rattle.rx_prover.specs.declared.tree.OpenTree as tree
use Rattle.rx_prover.specs.declared.walked.Walked.TheVariants.{Closed, Found, Unfinished}
use Rattle.rx_prover.specs.Walk.{Kind, Empty, Solved, kind}
use Rattle.rx_prover.specs.Trees.{inner_nodes, has_few_steps, follow, Walking, Stopped, closed_leaf, unreached, is_inner}
use Rattle.rx_prover.specs.Walked.{Goes, IsPointAt}
use Rattle.rx_prover.proofs.Equations.{as_tree_close, nodes_close, nodes_open, few_close, few_open, follow_close, follow_open}
use Rattle.rx_prover.proofs.Ends.{walk_at, walk_stopped}

le_test : (a b : ℕ) → a ≤ b → nat_le a b ≡ true
le_test a b h = grind (arith, h)

-- a leaf without points, with steps that close it
pub goes_closed : (node : Node) (splits : ℕ) (steps : List Step) (proof : Proof) → kind node ≡ Empty → closes node.rows steps ≡ true → length steps ≤ 524288 → proof ≡ Close steps → Goes node splits (Closed proof splits)
goes_closed node splits steps proof k c few e = subst (λ (p : Proof). Goes node splits (Closed p splits)) (sym e) (record {
  ends = λ depth h. walk_at depth node splits Empty k;
  evidence = record {
    is_accepted = accepted_close steps node ∙ c;
    follows =
        ap (λ (t : OpenTree). follow t node (Walking splits)) (as_tree_close steps)
        ∙ follow_close steps node (Walking splits)
        ∙ ap (λ (x : Kind). closed_leaf x (closes node.rows steps) (Walking splits)) k
        ∙ ap (λ (b : Bool). closed_leaf Empty b (Walking splits)) c;
    counted = (let a = ap inner_nodes (as_tree_close steps) in let b = nodes_close steps in omega (arith, a, b));
    few_steps = ap has_few_steps (as_tree_close steps) ∙ few_close steps ∙ le_test (length steps) 524288 few;
  };
})

-- a leaf with a point
pub goes_found : (node : Node) (splits : ℕ) (point : Vec ℤ Global) → kind node ≡ Solved → IsPointAt node point.items → Goes node splits (Found point)
goes_found node splits point k p = record { ends = λ depth h. walk_at depth node splits Solved k; evidence = p }

-- an inner node without a split left
pub goes_stopped : (node : Node) (splits : ℕ) (k : Kind) → kind node ≡ k → is_inner k ≡ true → splits ≡ 0 → Goes node splits (Unfinished tree.Open)
goes_stopped node splits k e i z = record {
  ends = λ depth h. walk_stopped depth node splits k e i z;
  evidence = record {
    follows =
        follow_open node (Walking splits)
        ∙ ap (λ (x : Kind). unreached x (Walking splits)) e
        ∙ ap (λ (s : ℕ). unreached k (Walking s)) z
        ∙ ap (λ (b : Bool). cond b (Some Stopped) None) i;
    counted = nodes_open ∙ sym z;
    few_steps = few_open;
  };
}
