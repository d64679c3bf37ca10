-- How the walk of a node ends, by its kind.
use Rattle.std.proofs.Common.{◌≡◌, refl, ap, ◌∙◌, subst, ℕ, zero, suc, ◌+◌, ◌≤◌, arith, List, [], ◌∷◌, Bool, true, false, cond, ℤ, pos, ◌+ℤ◌}
use Rattle.rx_linear.specs.Units.{at_most, at_least}
use Rattle.rx_proof.specs.declared.query.Query.{Query}
use Rattle.rx_proof.specs.Acceptance.{Node, with_row}
use Rattle.rx_shadow.specs.Simple.{Outcome, outcome, clashes}
use Rattle.rx_prover.specs.Walk.{Kind, Empty, Solved, Cases, Halves, kind, cases_or_leaf, leaf_or_halves, branch_nodes, half_nodes, Reached, Past, AtPoint, Over, in_turn, with_split, walk_kind, walk_from}
use Rattle.rx_prover.specs.Trees.{is_inner}

-- ---- kinds

pub kind_empty : (node : Node) → clashes node.variables node.rows ≡ true → kind node ≡ Empty
kind_empty node e = ap (λ (b : Bool). cond b Empty (cases_or_leaf node.variables node.rows node.either)) e

pub kind_else : (node : Node) (either : List (List Query)) → clashes node.variables node.rows ≡ false → node.either ≡ either → kind node ≡ cases_or_leaf node.variables node.rows either
kind_else node either e d = ap (λ (b : Bool). cond b Empty (cases_or_leaf node.variables node.rows node.either)) e ∙ ap (cases_or_leaf node.variables node.rows) d

pub kind_leaf : (node : Node) (o : Outcome) → clashes node.variables node.rows ≡ false → node.either ≡ [] → outcome node.variables node.rows ≡ o → kind node ≡ leaf_or_halves node.variables node.rows o
kind_leaf node o e d h = kind_else node [] e d ∙ ap (leaf_or_halves node.variables node.rows) h

-- ---- the walk, one level down

-- the walk of the children, at most so many inner nodes below one another with their parent
abbrev pub below : ℕ → Node → ℕ → Reached
below zero = λ n l. Over
below (suc depth) = walk_from depth

pub walk_level : (depth : ℕ) (node : Node) (splits : ℕ) → walk_from depth node splits ≡ walk_kind (below depth) node splits (kind node)
unfolding walk_from
walk_level zero node splits = refl
walk_level (suc depth) node splits = refl

pub walk_at : (depth : ℕ) (node : Node) (splits : ℕ) (k : Kind) → kind node ≡ k → walk_from depth node splits ≡ walk_kind (below depth) node splits k
walk_at depth node splits k e = walk_level depth node splits ∙ ap (walk_kind (below depth) node splits) e

split_taken : (splits less : ℕ) (go : ℕ → Reached) → splits ≡ less + 1 → with_split splits go ≡ go less
split_taken zero less go e = absurd (omega (arith, e))
split_taken (suc left) less go e = ap go (let l : left ≡ less = omega (arith, e) in l)

pub walk_stopped : (depth : ℕ) (node : Node) (splits : ℕ) (k : Kind) → kind node ≡ k → is_inner k ≡ true → splits ≡ 0 → walk_from depth node splits ≡ Over
walk_stopped depth node splits k e i z = walk_at depth node splits k e ∙ ap (λ (s : ℕ). walk_kind (below depth) node s k) z ∙ none k i
  where
    none : (k : Kind) → is_inner k ≡ true → walk_kind (below depth) node 0 k ≡ Over
    none Empty i = absurd (cc)
    none Solved i = absurd (cc)
    none (Cases branches) i = refl
    none (Halves x c) i = refl

-- a node that takes a split goes on with its children
pub walk_cases : (depth : ℕ) (node : Node) (splits less : ℕ) (branches : List Query) → kind node ≡ Cases branches → splits ≡ less + 1 → walk_from depth node splits ≡ in_turn (below depth) (branch_nodes node branches) (Past less)
walk_cases depth node splits less branches e s = walk_at depth node splits (Cases branches) e ∙ split_taken splits less (λ l. in_turn (below depth) (branch_nodes node branches) (Past l)) s

pub walk_halves : (depth : ℕ) (node : Node) (splits less : ℕ) (x : ℕ) (c : ℤ) → kind node ≡ Halves x c → splits ≡ less + 1 → walk_from depth node splits ≡ in_turn (below depth) (half_nodes node x c) (Past less)
walk_halves depth node splits less x c e s = walk_at depth node splits (Halves x c) e ∙ split_taken splits less (λ l. in_turn (below depth) (half_nodes node x c) (Past l)) s

-- what holds of the walks of the children, however deep, holds of those one level down
pub one_down : (P : (Node → ℕ → Reached) → Type 0) (less splits depth : ℕ) → splits ≡ less + 1 → splits ≤ depth → ((d : ℕ) → less ≤ d → P (walk_from d)) → P (below depth)
one_down P less splits zero e h f = absurd (omega (arith, e, h))
one_down P less splits (suc depth) e h f = f depth (omega (arith, e, h))

-- ---- after the end

pub turn_point : (walk : Node → ℕ → Reached) (nodes : List Node) → in_turn walk nodes AtPoint ≡ AtPoint
turn_point walk [] = refl
turn_point walk (node ∷ nodes) = refl

pub turn_over : (walk : Node → ℕ → Reached) (nodes : List Node) → in_turn walk nodes Over ≡ Over
turn_over walk [] = refl
turn_over walk (node ∷ nodes) = refl

-- ---- a halving whose lower half is the node itself

-- the walk came past the last leaf
abbrev pub IsPast : Reached → Type 0
IsPast (Past left) = Unit {0}
IsPast AtPoint = ⊥
IsPast Over = ⊥

never : (walk : Node → ℕ → Reached) (nodes : List Node) (reached : Reached) → (IsPast reached → ⊥) → IsPast (in_turn walk nodes reached) → ⊥
never walk [] reached h p = h p
never walk (node ∷ nodes) (Past left) h p = h tt
never walk (node ∷ nodes) AtPoint h p = p
never walk (node ∷ nodes) Over h p = p

-- it is walked again and again, until no split is left
pub same_never_past : (depth : ℕ) (node : Node) (splits x : ℕ) (c : ℤ) → kind node ≡ Halves x c → with_row node (at_most node.variables x c) ≡ node → IsPast (walk_from depth node splits) → ⊥
same_never_past depth node splits x c e s p = by_depth depth splits (subst IsPast (walk_at depth node splits (Halves x c) e) p)
  where
    by_depth : (depth splits : ℕ) → IsPast (walk_kind (below depth) node splits (Halves x c)) → ⊥
    by_depth zero zero p = p
    by_depth zero (suc left) p = p
    by_depth (suc depth) zero p = p
    by_depth (suc depth) (suc left) p =
        let upper = with_row node (at_least node.variables x (c +ℤ pos 1)) in
        let q : IsPast (in_turn (walk_from depth) (upper ∷ []) (walk_from depth node left)) = subst (λ (n : Node). IsPast (in_turn (walk_from depth) (upper ∷ []) (walk_from depth n left))) s p in
        never (walk_from depth) (upper ∷ []) (walk_from depth node left) (λ r. by_depth depth left (subst IsPast (walk_at depth node left (Halves x c) e) r)) q
