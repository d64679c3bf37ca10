-- The links of a node and its goals, one link after the other.
use Rattle.std.proofs.Common.{◌≡◌, refl, sym, ap, subst, ◌∙◌, ℕ, zero, suc, ◌+◌, ◌-◌, ◌<◌, ◌≤◌, arith, slice_get, Option, Some, None, List, [], ◌∷◌, ◌++◌, length, drop, get_or, filter, Bool, true, false, if◌then◌else◌, append_assoc, append-nil}
use Rattle.std.specs.List.{flat_map}
use Rattle.std.proofs.lemmas.List.{drop_more, drop_all}
use Rattle.rx_types.specs.Domain.{Domain}
use Rattle.rx_graph.specs.declared.message.Node.{Node}
use Rattle.rx_graph.specs.declared.message.Node.TheVariants.{At}
use Rattle.rx_graph.specs.declared.message.Field.{Field}
use Rattle.rx_graph.specs.declared.message.Link.{Link}
use Rattle.rx_graph.specs.Graph.{Arrow, Graph, arrow_of, arrows}
use Rattle.rx_graph.specs.Checks.{is_node}
use Rattle.rx_layout.specs.declared.goal.Goal.{Goal}
use Rattle.rx_layout.specs.declared.goal.Goal.TheVariants as goal
use Rattle.rx_layout.specs.declared.checklist.LinkCheck.{LinkCheck}
use Rattle.rx_layout.specs.Types.{has_gaps}
use Rattle.rx_layout.specs.Listed
use Rattle.rx_layout.specs.Listed.{nodes_from, nodes_of, links_at, goal_of}

-- the links of a node that are left from a place on
abbrev pub left_of : Node → List Link → ℕ → List Arrow
left_of node links i = filter (λ l. is_node node l.source) (arrows (drop i links))

left_more : (node : Node) (links : List Link) (i : ℕ) (l : Link) → i < length links → l ≡ get_or links i l → left_of node links i ≡ filter (λ l. is_node node l.source) (arrow_of l ∷ arrows (drop (i + 1) links))
left_more node links i l h is = ap (λ (ls : List Link). filter (λ x. is_node node x.source) (arrows ls)) (drop_more links i l h ∙ ap (λ (x : Link). x ∷ drop (i + 1) links) (sym is))

pub left_taken : (node : Node) (links : List Link) (i : ℕ) (l : Link) → i < length links → l ≡ get_or links i l → is_node node (arrow_of l).source ≡ true → left_of node links i ≡ arrow_of l ∷ left_of node links (i + 1)
left_taken node links i l h is e = left_more node links i l h is ∙ ap (λ (b : Bool). if b then arrow_of l ∷ left_of node links (i + 1) else left_of node links (i + 1)) e

pub left_skipped : (node : Node) (links : List Link) (i : ℕ) (l : Link) → i < length links → l ≡ get_or links i l → is_node node (arrow_of l).source ≡ false → left_of node links i ≡ left_of node links (i + 1)
left_skipped node links i l h is e = left_more node links i l h is ∙ ap (λ (b : Bool). if b then arrow_of l ∷ left_of node links (i + 1) else left_of node links (i + 1)) e

pub none_left : (node : Node) (links : List Link) (i : ℕ) → length links ≤ i → left_of node links i ≡ []
none_left node links i h = ap (λ (ls : List Link). filter (λ x. is_node node x.source) (arrows ls)) (drop_all i links h)

pub drop_some : {X : Type 0} (xs : List X) (i : ℕ) → i < length xs → (x : X) × (drop i xs ≡ x ∷ drop (i + 1) xs)
drop_some [] i h = absurd (omega (arith, h))
drop_some (x ∷ xs) i h = (get_or (x ∷ xs) i x, drop_more (x ∷ xs) i x h)

-- adding what comes next leaves less to add
pub added : {X : Type 0} (done new x rest all : List X) → new ≡ done ++ x → done ++ (x ++ rest) ≡ all → new ++ rest ≡ all
added done new x rest all e h = ap (λ xs. xs ++ rest) e ∙ append_assoc done x rest ∙ h

module _ (domains : List Domain) (m : Graph) where
  pub check_added : (check : LinkCheck) (node : Node) (number : ℕ) (links : List Link) (i : ℕ) (l : Link) (done new all : List Goal) → i < length links → l ≡ get_or links i l → is_node node (arrow_of l).source ≡ true
      → new ≡ done ++ (if Listed.is_checked domains m check l.target then goal_of check node number ∷ [] else [])
      → done ++ Listed.checks_from domains m check node number (left_of node links i) ≡ all → new ++ Listed.checks_from domains m check node (number + 1) (left_of node links (i + 1)) ≡ all
  check_added check node number links i l done new all h is e n inv =
      added done new _ _ all n (ap (λ ls. done ++ Listed.checks_from domains m check node number ls) (sym (left_taken node links i l h is e)) ∙ inv)

  pub check_skipped : (check : LinkCheck) (node : Node) (number : ℕ) (links : List Link) (i : ℕ) (l : Link) (done all : List Goal) → i < length links → l ≡ get_or links i l → is_node node (arrow_of l).source ≡ false
      → done ++ Listed.checks_from domains m check node number (left_of node links i) ≡ all → done ++ Listed.checks_from domains m check node number (left_of node links (i + 1)) ≡ all
  check_skipped check node number links i l done all h is e inv = ap (λ ls. done ++ Listed.checks_from domains m check node number ls) (sym (left_skipped node links i l h is e)) ∙ inv

  pub checks_done : (check : LinkCheck) (node : Node) (number : ℕ) (links : List Link) (i : ℕ) (done all : List Goal) → length links ≤ i → done ++ Listed.checks_from domains m check node number (left_of node links i) ≡ all → done ≡ all
  checks_done check node number links i done all h inv = sym (append-nil done) ∙ ap (λ ls. done ++ Listed.checks_from domains m check node number ls) (sym (none_left node links i h)) ∙ inv

  -- ---- nodes

  abbrev pub goals_from : (Node → List Goal) → ℕ → List Field → List Goal
  goals_from f i fields = flat_map f (nodes_from i fields)

  pub node_added : (f : Node → List Goal) (fields : List Field) (i : ℕ) (done new all : List Goal) → i < length fields → new ≡ done ++ f (At i) → done ++ goals_from f i (drop i fields) ≡ all → new ++ goals_from f (i + 1) (drop (i + 1) fields) ≡ all
  node_added f fields i done new all h n inv = added done new (f (At i)) _ all n (ap (λ fs. done ++ goals_from f i fs) (sym ((drop_some fields i h).1)) ∙ inv)

  pub nodes_done : (f : Node → List Goal) (fields : List Field) (i : ℕ) (done all : List Goal) → length fields ≤ i → done ++ goals_from f i (drop i fields) ≡ all → done ≡ all
  nodes_done f fields i done all h inv = sym (append-nil done) ∙ ap (λ fs. done ++ goals_from f i fs) (sym (drop_all i fields h)) ∙ inv

  -- ---- pairs

  pub pair_added : (node : Node) (a b : ℕ) (links : List Arrow) (done new all : List Goal) → b < length links → new ≡ done ++ goal.Exclusive node a (b + 1) ∷ [] → done ++ Listed.pairs_with domains m node a (b + 1) (drop b links) ≡ all
      → new ++ Listed.pairs_with domains m node a (b + 1 + 1) (drop (b + 1) links) ≡ all
  pair_added node a b links done new all h n inv = added done new _ _ all n (ap (λ ls. done ++ Listed.pairs_with domains m node a (b + 1) ls) (sym ((drop_some links b h).1)) ∙ inv)

  pub pairs_done : (node : Node) (a b : ℕ) (links : List Arrow) (done all : List Goal) → length links ≤ b → done ++ Listed.pairs_with domains m node a (b + 1) (drop b links) ≡ all → done ≡ all
  pairs_done node a b links done all h inv = sym (append-nil done) ∙ ap (λ ls. done ++ Listed.pairs_with domains m node a (b + 1) ls) (sym (drop_all b links h)) ∙ inv

  pub row_added : (node : Node) (a : ℕ) (links : List Arrow) (done new all : List Goal) → a < length links → new ≡ done ++ Listed.pairs_with domains m node (a + 1) (a + 1 + 1) (drop (a + 1) links) → done ++ Listed.pairs_from domains m node (a + 1) (drop a links) ≡ all
      → new ++ Listed.pairs_from domains m node (a + 1 + 1) (drop (a + 1) links) ≡ all
  row_added node a links done new all h n inv = added done new _ _ all n (ap (λ ls. done ++ Listed.pairs_from domains m node (a + 1) ls) (sym ((drop_some links a h).1)) ∙ inv)

  pub rows_done : (node : Node) (a : ℕ) (links : List Arrow) (done all : List Goal) → length links ≤ a → done ++ Listed.pairs_from domains m node (a + 1) (drop a links) ≡ all → done ≡ all
  rows_done node a links done all h inv = sym (append-nil done) ∙ ap (λ ls. done ++ Listed.pairs_from domains m node (a + 1) ls) (sym (drop_all a links h)) ∙ inv

  -- ---- fields

  pub reached_added : (fields : List Field) (i : ℕ) (done new all : List Goal) → i < length fields → new ≡ done ++ goal.Reached i ∷ [] → done ++ Listed.reached_from domains m i (drop i fields) ≡ all → new ++ Listed.reached_from domains m (i + 1) (drop (i + 1) fields) ≡ all
  reached_added fields i done new all h n inv = added done new _ _ all n (ap (λ fs. done ++ Listed.reached_from domains m i fs) (sym ((drop_some fields i h).1)) ∙ inv)

  pub reached_done : (fields : List Field) (i : ℕ) (done all : List Goal) → length fields ≤ i → done ++ Listed.reached_from domains m i (drop i fields) ≡ all → done ≡ all
  reached_done fields i done all h inv = sym (append-nil done) ∙ ap (λ fs. done ++ Listed.reached_from domains m i fs) (sym (drop_all i fields h)) ∙ inv

-- four lists, each added behind the others
pub four_added : {X : Type 0} (g p t r z a b c d : List X) → a ≡ g ++ p → b ≡ a ++ t → c ≡ b ++ r → d ≡ c ++ z → d ≡ g ++ (p ++ (t ++ (r ++ z)))
four_added g p t r z a b c d e f h k =
    k ∙ ap (λ x. x ++ z) (h ∙ ap (λ x. x ++ r) (f ∙ ap (λ x. x ++ t) e))
    ∙ append_assoc ((g ++ p) ++ t) r z ∙ append_assoc (g ++ p) t (r ++ z) ∙ append_assoc g p (t ++ (r ++ z))

-- there is no gap behind the last but one number
pub gaps_done : (ns : List ℕ) (j : ℕ) → length ns ≤ j + 1 → has_gaps (drop j ns) ≡ false
gaps_done [] j h = ap has_gaps (drop_all j [] (omega arith))
gaps_done (n ∷ []) zero h = refl
gaps_done (n ∷ k ∷ ns) zero h = absurd (omega (arith, h))
gaps_done (n ∷ ns) (suc j) h = gaps_done ns j (omega (arith, h))

-- ---- the link with a number

pub number_found : (node : Node) (links : List Link) (i k : ℕ) (l : Link) (o : Option Arrow) → i < length links → l ≡ get_or links i l → is_node node (arrow_of l).source ≡ true → k ≡ 0 → slice_get (left_of node links i) k ≡ o → o ≡ Some (arrow_of l)
number_found node links i k l o h is e z s = sym s ∙ ap (λ (j : ℕ). slice_get (left_of node links i) j) z ∙ ap (λ (ls : List Arrow). slice_get ls 0) (left_taken node links i l h is e)

later : (x : Arrow) (xs : List Arrow) (k : ℕ) → 0 < k → slice_get (x ∷ xs) k ≡ slice_get xs (k - 1)
later x xs zero h = absurd (omega (arith, h))
later x xs (suc k) h = ap (λ (j : ℕ). slice_get xs j) (one_less k)
  where
    one_less : (k : ℕ) → k ≡ suc k - 1
    one_less k = omega arith

pub number_passed : (node : Node) (links : List Link) (i k : ℕ) (l : Link) (o : Option Arrow) → i < length links → l ≡ get_or links i l → is_node node (arrow_of l).source ≡ true → 0 < k → slice_get (left_of node links i) k ≡ o → slice_get (left_of node links (i + 1)) (k - 1) ≡ o
number_passed node links i k l o h is e z s = sym (later (arrow_of l) (left_of node links (i + 1)) k z) ∙ ap (λ (ls : List Arrow). slice_get ls k) (sym (left_taken node links i l h is e)) ∙ s

pub number_skipped : (node : Node) (links : List Link) (i k : ℕ) (l : Link) (o : Option Arrow) → i < length links → l ≡ get_or links i l → is_node node (arrow_of l).source ≡ false → slice_get (left_of node links i) k ≡ o → slice_get (left_of node links (i + 1)) k ≡ o
number_skipped node links i k l o h is e s = ap (λ (ls : List Arrow). slice_get ls k) (sym (left_skipped node links i l h is e)) ∙ s

pub number_none : (node : Node) (links : List Link) (i k : ℕ) (o : Option Arrow) → length links ≤ i → slice_get (left_of node links i) k ≡ o → o ≡ None
number_none node links i k o h s = sym s ∙ ap (λ (ls : List Arrow). slice_get ls k) (none_left node links i h)

pub link_is : (links : List Link) (i : ℕ) (l : Link) → i < length links → l ≡ get_or links i l → slice_get (arrows links) i ≡ Some (arrow_of l)
link_is [] i l h is = absurd (omega (arith, h))
link_is (x ∷ xs) zero l h is = ap (λ (y : Link). Some (arrow_of y)) (sym is)
link_is (x ∷ xs) (suc i) l h is = link_is xs i l (omega (arith, h)) is

pub link_in : (items links : List Link) (i : ℕ) (l : Link) → links ≡ items → i < length links → l ≡ get_or links i l → slice_get (arrows items) i ≡ Some (arrow_of l)
link_in items links i l e h is = subst (λ (ls : List Link). slice_get (arrows ls) i ≡ Some (arrow_of l)) e (link_is links i l h is)
