-- The walk of a halving, the lower half first.
use Rattle.std.proofs.Common.{◌≡◌, refl, sym, ap, ◌∙◌, subst, ℕ, ◌+◌, ◌≤◌, arith, [], ◌∷◌, Bool, true, cond, ◌&&◌, ◌==◌, ℤ, pos, ◌+ℤ◌, Some, None, Vec, Global}
use Rattle.std.specs.Ordering.{int_eq}
use Rattle.std.proofs.lemmas.Bool.Decides.{Decides-int_eq}
use Rattle.rx_linear.specs.Units.{at_most, at_least}
use Rattle.rx_linear.proofs.Joining.{and_true}
use Rattle.rx_proof.specs.declared.proof.Proof.{Proof, Halve}
use Rattle.rx_proof.specs.Acceptance.{Node, with_row}
use Rattle.rx_proof.proofs.Equations.{accepted_halve}
use Rattle.rx_prover.specs.declared.tree.OpenTree.{OpenTree}
use Rattle.rx_prover.specs.declared.tree.OpenTree as tree
use Rattle.rx_prover.specs.declared.walked.Walked.TheVariants.{Closed, Found, Unfinished}
use Rattle.rx_prover.specs.Walk.{Kind, Halves, kind, half_nodes, Reached, Past, AtPoint, Over, in_turn, walk_from}
use Rattle.rx_prover.specs.Trees.{as_tree, inner_nodes, has_few_steps, follow, follow_each, Walking, Stopped, halve_node}
use Rattle.rx_prover.specs.Walked.{Goes, IsLowerDone}
use Rattle.rx_prover.proofs.Equations.{as_tree_halve, nodes_halve, few_halve, follow_halve, nodes_open, few_open, follow_open}
use Rattle.rx_prover.proofs.Ends.{walk_halves, one_down}
use Rattle.rx_prover.proofs.Progress.{inner_taken}
use Rattle.rx_prover.proofs.Branches.{half_back}

abbrev pub low_node : Node → ℕ → ℤ → Node
low_node node x c = with_row node (at_most node.variables x c)

abbrev pub high_node : Node → ℕ → ℤ → Node
high_node node x c = with_row node (at_least node.variables x (c +ℤ pos 1))

halves_turn : (node : Node) (splits less x : ℕ) (c : ℤ) (r : Reached) → kind node ≡ Halves x c → splits ≡ less + 1 → ((depth : ℕ) → less ≤ depth → in_turn (walk_from depth) (half_nodes node x c) (Past less) ≡ r) → (depth : ℕ) → splits ≤ depth → walk_from depth node splits ≡ r
halves_turn node splits less x c r k s e depth h =
    walk_halves depth node splits less x c k s ∙ one_down (λ walk. in_turn walk (half_nodes node x c) (Past less) ≡ r) less splits depth s h e

same_test : (x : ℕ) (c : ℤ) → (x == x && int_eq c c) ≡ true
same_test x c = and_true (let e : (x == x) ≡ true = grind arith in e) ((Decides-int_eq c c).1 refl)

-- a tree of the halving is read as its two parts, one after the other
halve_follows : (node : Node) (splits less x : ℕ) (c : ℤ) (low high : OpenTree) → kind node ≡ Halves x c → splits ≡ less + 1 → follow (tree.Halve x c low high) node (Walking splits) ≡ follow_each (follow low ∷ follow high ∷ []) (half_nodes node x c) (Some (Walking less))
halve_follows node splits less x c low high k s =
    follow_halve x c low high node (Walking splits)
    ∙ ap (λ (y : Kind). halve_node y node x c (follow low) (follow high) (Walking splits)) k
    ∙ inner_taken splits less (λ left. cond (x == x && int_eq c c) (follow_each (follow low ∷ follow high ∷ []) (half_nodes node x c) (Some (Walking left))) None) s
    ∙ ap (λ (b : Bool). cond b (follow_each (follow low ∷ follow high ∷ []) (half_nodes node x c) (Some (Walking less))) None) (same_test x c)

-- ---- the walk ends in the lower half

pub lower_found : (node : Node) (splits less x : ℕ) (c : ℤ) → kind node ≡ Halves x c → splits ≡ less + 1 → ((depth : ℕ) → less ≤ depth → walk_from depth (low_node node x c) less ≡ AtPoint) → (depth : ℕ) → splits ≤ depth → walk_from depth node splits ≡ AtPoint
lower_found node splits less x c k s g =
    halves_turn node splits less x c AtPoint k s (λ depth h. ap (in_turn (walk_from depth) (high_node node x c ∷ [])) (g depth h))

pub goes_lower_unfinished : (node : Node) (splits less x : ℕ) (c : ℤ) (sub whole : OpenTree) → kind node ≡ Halves x c → splits ≡ less + 1 → Goes (low_node node x c) less (Unfinished sub) → whole ≡ tree.Halve x c sub tree.Open → Goes node splits (Unfinished whole)
goes_lower_unfinished node splits less x c sub whole k s g e = subst (λ (t : OpenTree). Goes node splits (Unfinished t)) (sym e) (record {
  ends = halves_turn node splits less x c Over k s (λ depth h. ap (in_turn (walk_from depth) (high_node node x c ∷ [])) (g.ends depth h));
  evidence = record {
    follows =
        halve_follows node splits less x c sub tree.Open k s
        ∙ ap (follow_each (follow tree.Open ∷ []) (high_node node x c ∷ [])) g.evidence.follows
        ∙ ap (follow_each [] []) (follow_open (high_node node x c) Stopped);
    counted = omega (arith, nodes_halve x c sub tree.Open, nodes_open, g.evidence.counted, s);
    few_steps = few_halve x c sub tree.Open ∙ and_true g.evidence.few_steps few_open;
  };
})

-- ---- the walk comes to the upper half

upper_turn : (node : Node) (splits x : ℕ) (c : ℤ) (low : Proof) (left : ℕ) (r : Reached) → IsLowerDone node x c splits low left → ((depth : ℕ) → left ≤ depth → walk_from depth (high_node node x c) left ≡ r) → (depth : ℕ) → splits ≤ depth → walk_from depth node splits ≡ r
upper_turn node splits x c low left r d g =
    halves_turn node splits d.less x c r d.halves d.one_taken
    (λ depth h. ap (in_turn (walk_from depth) (high_node node x c ∷ [])) (d.ends depth h) ∙ g depth (omega (arith, h, d.closed.counted)))

pub upper_found : (node : Node) (splits x : ℕ) (c : ℤ) (low : Proof) (left : ℕ) → IsLowerDone node x c splits low left → ((depth : ℕ) → left ≤ depth → walk_from depth (high_node node x c) left ≡ AtPoint) → (depth : ℕ) → splits ≤ depth → walk_from depth node splits ≡ AtPoint
upper_found node splits x c low left d g = upper_turn node splits x c low left AtPoint d g

pub goes_upper_closed : (node : Node) (splits x : ℕ) (c : ℤ) (low high proof : Proof) (left rest : ℕ) → IsLowerDone node x c splits low left → Goes (high_node node x c) left (Closed high rest) → proof ≡ Halve x c low high → Goes node splits (Closed proof rest)
goes_upper_closed node splits x c low high proof left rest d g e = subst (λ (p : Proof). Goes node splits (Closed p rest)) (sym e) (record {
  ends = upper_turn node splits x c low left (Past rest) d g.ends;
  evidence = record {
    is_accepted = accepted_halve x c low high node ∙ and_true (and_true d.can d.closed.is_accepted) g.evidence.is_accepted;
    follows =
        ap (λ (t : OpenTree). follow t node (Walking splits)) (as_tree_halve x c low high)
        ∙ halve_follows node splits d.less x c (as_tree low) (as_tree high) d.halves d.one_taken
        ∙ ap (follow_each (follow (as_tree high) ∷ []) (high_node node x c ∷ [])) d.closed.follows
        ∙ ap (follow_each [] []) g.evidence.follows;
    counted =
        (let a = ap inner_nodes (as_tree_halve x c low high) in
        let b = nodes_halve x c (as_tree low) (as_tree high) in
        omega (arith, a, b, d.closed.counted, g.evidence.counted, d.one_taken));
    few_steps = ap has_few_steps (as_tree_halve x c low high) ∙ few_halve x c (as_tree low) (as_tree high) ∙ and_true d.closed.few_steps g.evidence.few_steps;
  };
})

pub goes_upper_unfinished : (node : Node) (splits x : ℕ) (c : ℤ) (low : Proof) (first high whole : OpenTree) (left : ℕ) → IsLowerDone node x c splits low left → Goes (high_node node x c) left (Unfinished high) → first ≡ as_tree low → whole ≡ tree.Halve x c first high → Goes node splits (Unfinished whole)
goes_upper_unfinished node splits x c low first high whole left d g f e = subst (λ (t : OpenTree). Goes node splits (Unfinished t)) (sym (e ∙ ap (λ (t : OpenTree). tree.Halve x c t high) f)) (record {
  ends = upper_turn node splits x c low left Over d g.ends;
  evidence = record {
    follows =
        halve_follows node splits d.less x c (as_tree low) high d.halves d.one_taken
        ∙ ap (follow_each (follow high ∷ []) (high_node node x c ∷ [])) d.closed.follows
        ∙ ap (follow_each [] []) g.evidence.follows;
    counted = omega (arith, nodes_halve x c (as_tree low) high, d.closed.counted, g.evidence.counted, d.one_taken);
    few_steps = few_halve x c (as_tree low) high ∙ and_true d.closed.few_steps g.evidence.few_steps;
  };
})

-- a point of a half is a point of the node
pub goes_lower_point : (node : Node) (splits less x : ℕ) (c : ℤ) (point : Vec ℤ Global) → kind node ≡ Halves x c → splits ≡ less + 1 → Goes (low_node node x c) less (Found point) → Goes node splits (Found point)
goes_lower_point node splits less x c point k s g = record { ends = lower_found node splits less x c k s g.ends; evidence = half_back node (at_most node.variables x c) point.items g.evidence }

pub goes_upper_point : (node : Node) (splits x : ℕ) (c : ℤ) (low : Proof) (left : ℕ) (point : Vec ℤ Global) → IsLowerDone node x c splits low left → Goes (high_node node x c) left (Found point) → Goes node splits (Found point)
goes_upper_point node splits x c low left point d g = record { ends = upper_found node splits x c low left d g.ends; evidence = half_back node (at_least node.variables x (c +ℤ pos 1)) point.items g.evidence }
