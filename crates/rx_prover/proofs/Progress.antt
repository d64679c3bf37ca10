-- The walk of a case, branch by branch.
use Rattle.std.proofs.Common.{◌≡◌, refl, sym, ap, ◌∙◌, subst, ℕ, zero, suc, ◌+◌, ◌-◌, ◌<◌, ◌≤◌, arith, List, [], ◌∷◌, ◌++◌, map, take, drop, length, get_or, replicate, Bool, true, Option, Some, None, length-append, append_assoc, ℤ, Vec, Global}
use Rattle.std.specs.List.{list_all, slice_get}
use Rattle.std.proofs.lemmas.List.{map-append, length-map, take_more, drop_more, drop_all, take_all, take-append-drop, length-drop}
use Rattle.std.proofs.lemmas.List.Folds.{list_all-append}
use Rattle.rx_linear.proofs.Joining.{both, and_true}
use Rattle.rx_linear.specs.Steps.{if_some}
use Rattle.rx_proof.specs.declared.query.Query.{Query}
use Rattle.rx_proof.specs.declared.proof.Proof.{Proof, Case}
use Rattle.rx_proof.specs.Acceptance.{Node, entered, accepted, each_accepts}
use Rattle.rx_proof.proofs.Equations.{accepted_case}
use Rattle.rx_prover.specs.declared.tree.OpenTree.{OpenTree}
use Rattle.rx_prover.specs.declared.tree.OpenTree as tree
use Rattle.rx_prover.specs.declared.walked.Walked.TheVariants.{Closed, Found, Unfinished}
use Rattle.rx_prover.specs.Walk.{Kind, Cases, kind, branch_nodes, Reached, Past, AtPoint, Over, in_turn, walk_from}
use Rattle.rx_prover.specs.Trees.{as_tree, total, inner_nodes, has_few_steps, follow, follow_each, Place, Walking, Stopped, case_node, inner}
use Rattle.rx_prover.specs.Walked.{Goes}
use Rattle.rx_prover.proofs.Equations.{as_tree_case, nodes_case, few_case, follow_case, nodes_open, few_open, follow_open}
use Rattle.rx_prover.proofs.Ends.{walk_cases, one_down, turn_point, turn_over}
use Rattle.rx_prover.proofs.Branches.{point_back}

-- ---- lists

pub each-push : (node : Node) (fs : List (Node → Bool)) (bs : List Query) (f : Node → Bool) (b : Query) → each_accepts node 0 fs bs ≡ true → f (entered node 0 b) ≡ true → each_accepts node 0 (fs ++ f ∷ []) (bs ++ b ∷ []) ≡ true
each-push node [] [] f b h t = and_true t refl
each-push node [] (q ∷ bs) f b h t = absurd (cc)
each-push node (g ∷ fs) [] f b h t = absurd (cc)
each-push node (g ∷ fs) (q ∷ bs) f b h t =
    let parts = both {a = g (entered node 0 q)} {b = each_accepts node 0 fs bs} h in
    and_true parts.0 (each-push node fs bs f b parts.1 t)

pub follow-append : (fs gs : List (Node → Place → Option Place)) (ns ms : List Node) (s : Option Place) (p : Place) → follow_each fs ns s ≡ Some p → follow_each (fs ++ gs) (ns ++ ms) s ≡ follow_each gs ms (Some p)
follow-append fs gs ns ms None p h = absurd (none fs ns h)
  where
    none : (fs : List (Node → Place → Option Place)) (ns : List Node) → follow_each fs ns None ≡ Some p → ⊥
    none fs ns h = cc
follow-append [] gs [] ms (Some q) p h = ap (follow_each gs ms) h
follow-append [] gs (n ∷ ns) ms (Some q) p h = absurd (cc)
follow-append (f ∷ fs) gs [] ms (Some q) p h = absurd (cc)
follow-append (f ∷ fs) gs (n ∷ ns) ms (Some q) p h = follow-append fs gs ns ms (f n q) p h

pub total-append : (ms ns : List ℕ) → total (ms ++ ns) ≡ total ms + total ns
total-append [] ns = omega arith
total-append (m ∷ ms) ns = omega (arith, total-append ms ns)

opens_follow : (k : ℕ) (ns : List Node) → length ns ≡ k → follow_each (map follow (replicate k tree.Open)) ns (Some Stopped) ≡ Some Stopped
opens_follow zero [] e = refl
opens_follow zero (n ∷ ns) e = absurd (omega (arith, e))
opens_follow (suc k) [] e = absurd (omega (arith, e))
opens_follow (suc k) (n ∷ ns) e = ap (follow_each (map follow (replicate k tree.Open)) ns) (follow_open n Stopped) ∙ opens_follow k ns (omega (arith, e))

opens_none : (k : ℕ) → total (map inner_nodes (replicate k tree.Open)) ≡ 0
opens_none zero = refl
opens_none (suc k) = omega (arith, nodes_open, opens_none k)

opens_few : (k : ℕ) → list_all (λ answer. answer) (map has_few_steps (replicate k tree.Open)) ≡ true
opens_few zero = refl
opens_few (suc k) = and_true few_open (opens_few k)

-- ---- branch by branch

abbrev pub trees : List Proof → List OpenTree
trees proofs = map as_tree proofs

-- the first i branches are closed, with these proofs and so many splits left
pub record Progress (node : Node) (branches : List Query) (i start : ℕ) (proofs : List Proof) (left : ℕ) : Type 0 where
  pub count : length proofs ≡ i
  pub ends : (depth : ℕ) → start ≤ depth → in_turn (walk_from depth) (branch_nodes node branches) (Past start) ≡ in_turn (walk_from depth) (branch_nodes node (drop i branches)) (Past left)
  pub accepts : each_accepts node 0 (map accepted proofs) (take i branches) ≡ true
  pub follows : follow_each (map follow (trees proofs)) (branch_nodes node (take i branches)) (Some (Walking start)) ≡ Some (Walking left)
  pub counted : total (map inner_nodes (trees proofs)) + left ≡ start
  pub few_steps : list_all (λ answer. answer) (map has_few_steps (trees proofs)) ≡ true

pub progress_start : (node : Node) (branches : List Query) (start : ℕ) → Progress node branches 0 start [] start
progress_start node branches start = record { count = refl; ends = λ depth h. refl; accepts = refl; follows = refl; counted = omega arith; few_steps = refl }

-- the walk of the branches from the next one on
next_turn : (node : Node) (branches : List Query) (branch : Query) (i start left depth : ℕ) (proofs : List Proof) (walked : Reached) → i < length branches → branch ≡ get_or branches i branch → Progress node branches i start proofs left → start ≤ depth → walk_from depth (entered node 0 branch) left ≡ walked → in_turn (walk_from depth) (branch_nodes node branches) (Past start) ≡ in_turn (walk_from depth) (branch_nodes node (drop (i + 1) branches)) walked
next_turn node branches branch i start left depth proofs walked l b p h w =
    p.ends depth h
    ∙ ap (λ (bs : List Query). in_turn (walk_from depth) (branch_nodes node bs) (Past left)) (drop_more branches i branch l)
    ∙ ap (λ (q : Query). in_turn (walk_from depth) (branch_nodes node (drop (i + 1) branches)) (walk_from depth (entered node 0 q) left)) (sym b)
    ∙ ap (in_turn (walk_from depth) (branch_nodes node (drop (i + 1) branches))) w

within : (start left depth count : ℕ) → count + left ≡ start → start ≤ depth → left ≤ depth
within start left depth count e h = omega (arith, e, h)

pub progress_more : (node : Node) (branches : List Query) (branch : Query) (i start left rest : ℕ) (proofs : List Proof) (proof : Proof) → i < length branches → branch ≡ get_or branches i branch → Progress node branches i start proofs left → Goes (entered node 0 branch) left (Closed proof rest) → Progress node branches (i + 1) start (proofs ++ proof ∷ []) rest
progress_more node branches branch i start left rest proofs proof l b p g =
    let more : take (i + 1) branches ≡ take i branches ++ branch ∷ [] = take_more branches i branch l ∙ ap (λ (q : Query). take i branches ++ q ∷ []) (sym b) in
    let added : trees (proofs ++ proof ∷ []) ≡ trees proofs ++ as_tree proof ∷ [] = map-append as_tree proofs (proof ∷ []) in
    let e = g.evidence in
    record {
      count = omega (arith, length-append proofs (proof ∷ []), p.count);
      ends = λ depth h. next_turn node branches branch i start left depth proofs (Past rest) l b p h (g.ends depth (within start left depth (total (map inner_nodes (trees proofs))) p.counted h));
      accepts =
          ap (each_accepts node 0 (map accepted (proofs ++ proof ∷ []))) more
          ∙ ap (λ (fs : List (Node → Bool)). each_accepts node 0 fs (take i branches ++ branch ∷ [])) (map-append accepted proofs (proof ∷ []))
          ∙ each-push node (map accepted proofs) (take i branches) (accepted proof) branch p.accepts e.is_accepted;
      follows =
          ap (λ (ts : List OpenTree). follow_each (map follow ts) (branch_nodes node (take (i + 1) branches)) (Some (Walking start))) added
          ∙ ap (λ (bs : List Query). follow_each (map follow (trees proofs ++ as_tree proof ∷ [])) (branch_nodes node bs) (Some (Walking start))) more
          ∙ ap (λ (ns : List Node). follow_each (map follow (trees proofs ++ as_tree proof ∷ [])) ns (Some (Walking start))) (map-append (entered node 0) (take i branches) (branch ∷ []))
          ∙ ap (λ (fs : List (Node → Place → Option Place)). follow_each fs (branch_nodes node (take i branches) ++ entered node 0 branch ∷ []) (Some (Walking start))) (map-append follow (trees proofs) (as_tree proof ∷ []))
          ∙ follow-append (map follow (trees proofs)) (follow (as_tree proof) ∷ []) (branch_nodes node (take i branches)) (entered node 0 branch ∷ []) (Some (Walking start)) (Walking left) p.follows
          ∙ ap (follow_each [] []) e.follows;
      counted =
          (let t = ap (λ (ts : List OpenTree). total (map inner_nodes ts)) added in
          let m = ap total (map-append inner_nodes (trees proofs) (as_tree proof ∷ [])) in
          let a = total-append (map inner_nodes (trees proofs)) (inner_nodes (as_tree proof) ∷ []) in
          omega (arith, t, m, a, p.counted, e.counted));
      few_steps =
          ap (λ (ts : List OpenTree). list_all (λ answer. answer) (map has_few_steps ts)) added
          ∙ ap (list_all (λ answer. answer)) (map-append has_few_steps (trees proofs) (as_tree proof ∷ []))
          ∙ list_all-append (λ (answer : Bool). answer) (map has_few_steps (trees proofs)) (has_few_steps (as_tree proof) ∷ [])
          ∙ and_true p.few_steps (and_true e.few_steps refl);
    }

-- ---- the case

one_more : (total start left splits : ℕ) → total + left ≡ start → splits ≡ start + 1 → 1 + total + left ≡ splits
one_more total start left splits e s = omega (arith, e, s)

pub inner_taken : (splits less : ℕ) (go : ℕ → Option Place) → splits ≡ less + 1 → inner (Walking splits) go ≡ go less
inner_taken zero less go e = absurd (omega (arith, e))
inner_taken (suc left) less go e = ap go (let l : left ≡ less = omega (arith, e) in l)

pub case_follows : (node : Node) (splits start : ℕ) (branches : List Query) (ts : List OpenTree) → kind node ≡ Cases branches → splits ≡ start + 1 → follow (tree.Case 0 ts) node (Walking splits) ≡ follow_each (map follow ts) (branch_nodes node branches) (Some (Walking start))
case_follows node splits start branches ts k s =
    follow_case 0 ts node (Walking splits)
    ∙ ap (λ (x : Kind). case_node x node 0 (map follow ts) (Walking splits)) k
    ∙ inner_taken splits start (λ left. follow_each (map follow ts) (branch_nodes node branches) (Some (Walking left))) s

case_turns : (node : Node) (splits start : ℕ) (branches : List Query) (r : Reached) → kind node ≡ Cases branches → splits ≡ start + 1 → ((depth : ℕ) → start ≤ depth → in_turn (walk_from depth) (branch_nodes node branches) (Past start) ≡ r) → (depth : ℕ) → splits ≤ depth → walk_from depth node splits ≡ r
case_turns node splits start branches r k s e depth h =
    walk_cases depth node splits start branches k s ∙ one_down (λ walk. in_turn walk (branch_nodes node branches) (Past start) ≡ r) start splits depth s h e

pub goes_case : (node : Node) (branches : List Query) (others : List (List Query)) (splits i start left : ℕ) (proofs : List Proof) (proof : Proof) → kind node ≡ Cases branches → node.either ≡ branches ∷ others → splits ≡ start + 1 → length branches ≤ i → Progress node branches i start proofs left → proof ≡ Case 0 proofs → Goes node splits (Closed proof left)
goes_case node branches others splits i start left proofs proof k d s l p e = subst (λ (q : Proof). Goes node splits (Closed q left)) (sym e) (record {
  ends = case_turns node splits start branches (Past left) k s (λ depth h. p.ends depth h ∙ ap (λ (bs : List Query). in_turn (walk_from depth) (branch_nodes node bs) (Past left)) (drop_all i branches l));
  evidence = record {
    is_accepted =
        accepted_case 0 proofs node
        ∙ ap (λ (ds : List (List Query)). if_some (slice_get ds 0) (λ bs. each_accepts node 0 (map accepted proofs) bs)) d
        ∙ ap (each_accepts node 0 (map accepted proofs)) (sym (take_all i branches l))
        ∙ p.accepts;
    follows =
        ap (λ (t : OpenTree). follow t node (Walking splits)) (as_tree_case 0 proofs)
        ∙ case_follows node splits start branches (trees proofs) k s
        ∙ ap (λ (bs : List Query). follow_each (map follow (trees proofs)) (branch_nodes node bs) (Some (Walking start))) (sym (take_all i branches l))
        ∙ p.follows;
    counted =
        (let a = ap inner_nodes (as_tree_case 0 proofs) in
        let b = nodes_case 0 (trees proofs) in
        omega (arith, a, b, p.counted, s));
    few_steps = ap has_few_steps (as_tree_case 0 proofs) ∙ few_case 0 (trees proofs) ∙ p.few_steps;
  };
})

pub goes_case_found : (node : Node) (branches : List Query) (branch : Query) (splits i start left : ℕ) (proofs : List Proof) → kind node ≡ Cases branches → splits ≡ start + 1 → i < length branches → branch ≡ get_or branches i branch → Progress node branches i start proofs left → ((depth : ℕ) → left ≤ depth → walk_from depth (entered node 0 branch) left ≡ AtPoint) → (depth : ℕ) → splits ≤ depth → walk_from depth node splits ≡ AtPoint
goes_case_found node branches branch splits i start left proofs k s l b p g =
    case_turns node splits start branches AtPoint k s
    (λ depth h. next_turn node branches branch i start left depth proofs AtPoint l b p h (g depth (within start left depth (total (map inner_nodes (trees proofs))) p.counted h)) ∙ turn_point (walk_from depth) (branch_nodes node (drop (i + 1) branches)))

pub goes_case_unfinished : (node : Node) (branches : List Query) (branch : Query) (splits i start left : ℕ) (proofs : List Proof) (sub whole : OpenTree) → kind node ≡ Cases branches → splits ≡ start + 1 → i < length branches → branch ≡ get_or branches i branch → Progress node branches i start proofs left → Goes (entered node 0 branch) left (Unfinished sub) → whole ≡ tree.Case 0 (trees proofs ++ sub ∷ replicate (length branches - (length proofs + 1)) tree.Open) → Goes node splits (Unfinished whole)
goes_case_unfinished node branches branch splits i start left proofs sub whole k s l b p g e =
    let rest : ℕ = length branches - (length proofs + 1) in
    let after : List Query = drop (i + 1) branches in
    let opens : List OpenTree = replicate rest tree.Open in
    let cut : branches ≡ take i branches ++ branch ∷ after = sym (take-append-drop i branches) ∙ ap (λ (bs : List Query). take i branches ++ bs) (drop_more branches i branch l) ∙ ap (λ (q : Query). take i branches ++ q ∷ after) (sym b) in
    let few : length (branch_nodes node after) ≡ rest = (let n = length-map after (entered node 0) in let m = length-drop (i + 1) branches in omega (arith, n, m, p.count)) in
    let ev = g.evidence in
    subst (λ (t : OpenTree). Goes node splits (Unfinished t)) (sym e) (record {
      ends = case_turns node splits start branches Over k s
          (λ depth h. next_turn node branches branch i start left depth proofs Over l b p h (g.ends depth (within start left depth (total (map inner_nodes (trees proofs))) p.counted h)) ∙ turn_over (walk_from depth) (branch_nodes node after));
      evidence = record {
        follows =
            case_follows node splits start branches (trees proofs ++ sub ∷ opens) k s
            ∙ ap (λ (bs : List Query). follow_each (map follow (trees proofs ++ sub ∷ opens)) (branch_nodes node bs) (Some (Walking start))) cut
            ∙ ap (λ (ns : List Node). follow_each (map follow (trees proofs ++ sub ∷ opens)) ns (Some (Walking start))) (map-append (entered node 0) (take i branches) (branch ∷ after))
            ∙ ap (λ (fs : List (Node → Place → Option Place)). follow_each fs (branch_nodes node (take i branches) ++ entered node 0 branch ∷ branch_nodes node after) (Some (Walking start))) (map-append follow (trees proofs) (sub ∷ opens))
            ∙ follow-append (map follow (trees proofs)) (follow sub ∷ map follow opens) (branch_nodes node (take i branches)) (entered node 0 branch ∷ branch_nodes node after) (Some (Walking start)) (Walking left) p.follows
            ∙ ap (follow_each (map follow opens) (branch_nodes node after)) ev.follows
            ∙ opens_follow rest (branch_nodes node after) few;
        counted =
            (let a = nodes_case 0 (trees proofs ++ sub ∷ opens) in
            let m = ap total (map-append inner_nodes (trees proofs) (sub ∷ opens)) in
            let t = total-append (map inner_nodes (trees proofs)) (inner_nodes sub ∷ map inner_nodes opens) in
            omega (arith, a, m, t, opens_none rest, p.counted, ev.counted, s));
        few_steps =
            few_case 0 (trees proofs ++ sub ∷ opens)
            ∙ ap (list_all (λ answer. answer)) (map-append has_few_steps (trees proofs) (sub ∷ opens))
            ∙ list_all-append (λ (answer : Bool). answer) (map has_few_steps (trees proofs)) (has_few_steps sub ∷ map has_few_steps opens)
            ∙ and_true p.few_steps (and_true ev.few_steps (opens_few rest));
      };
    })

-- a point of one branch is a point of the node
pub goes_case_point : (node : Node) (branches : List Query) (others : List (List Query)) (branch : Query) (splits i start left : ℕ) (proofs : List Proof) (point : Vec ℤ Global) → kind node ≡ Cases branches → node.either ≡ branches ∷ others → splits ≡ start + 1 → i < length branches → branch ≡ get_or branches i branch → Progress node branches i start proofs left → Goes (entered node 0 branch) left (Found point) → Goes node splits (Found point)
goes_case_point node branches others branch splits i start left proofs point k d s l b p g = record {
  ends = goes_case_found node branches branch splits i start left proofs k s l b p g.ends;
  evidence = point_back node branches others branch i point.items d l b g.evidence;
}

replicate-push : (k : ℕ) (x : OpenTree) → replicate k x ++ x ∷ [] ≡ replicate (suc k) x
replicate-push zero x = refl
replicate-push (suc k) x = ap (λ (ts : List OpenTree). x ∷ ts) (replicate-push k x)

-- one more branch to which the walk did not come
pub open_more : (ts after now : List OpenTree) (next : OpenTree) (a b : ℕ) → a ≤ b → now ≡ ts ++ next ∷ replicate (b - a) tree.Open → after ≡ now ++ tree.Open ∷ [] → after ≡ ts ++ next ∷ replicate (b + 1 - a) tree.Open
open_more ts after now next a b h n e =
    e
    ∙ ap (λ (xs : List OpenTree). xs ++ tree.Open ∷ []) n
    ∙ append_assoc ts (next ∷ replicate (b - a) tree.Open) (tree.Open ∷ [])
    ∙ ap (λ (xs : List OpenTree). ts ++ next ∷ xs) (replicate-push (b - a) tree.Open ∙ ap (λ (k : ℕ). replicate k tree.Open) (let k : suc (b - a) ≡ b + 1 - a = omega (arith, h) in k))
