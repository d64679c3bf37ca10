-- The listed goals of an elaborated message are its goals.
use Rattle.std.proofs.Common.{◌≡◌, refl, sym, ap, subst, ◌∙◌, ℕ, zero, suc, ◌+◌, ◌-◌, ◌<◌, arith, List, [], ◌∷◌, ◌++◌, length, take, Bool, true, false, if◌then◌else◌, cond, Option, Some, None, ◌⊎◌, inl, inr}
use Rattle.std.specs.Prelude.{slice_get, filter, count_by}
use Rattle.std.specs.List.{flat_map}
use Rattle.std.proofs.lemmas.Bool.Decides.{Decides-eqb}
use Rattle.rx_types.specs.Domain.{Domain}
use Rattle.rx_graph.specs.declared.message.Node.{Node}
use Rattle.rx_graph.specs.declared.message.Node.TheVariants.{Start, At, Null}
use Rattle.rx_graph.specs.declared.message.Field.{Field}
use Rattle.rx_graph.specs.Graph.{Arrow, Graph, type_of, overlay_of}
use Rattle.rx_graph.specs.Checks.{is_node, IsNumbered}
use Rattle.rx_graph.specs.Elaborated.{IsElaborated, IsSource}
use Rattle.rx_graph.proofs.Unique.{some_same}
use Rattle.rx_layout.specs.declared.goal.Goal.{Goal}
use Rattle.rx_layout.specs.declared.goal.Goal.TheVariants as goal
use Rattle.rx_layout.specs.Goals
use Rattle.rx_layout.specs.Goals.{IsGoal}
use Rattle.rx_layout.specs.Listed
use Rattle.rx_layout.specs.declared.checklist.LinkCheck.{LinkCheck}
use Rattle.rx_layout.specs.declared.checklist.LinkCheck.TheVariants.{Taken, Position, Grid, Overlay, Cover, Whole}
use Rattle.rx_layout.specs.Listed.{nodes_from, nodes_of, links_at, is_absent, is_present, goal_of, Among}
use Rattle.rx_layout.proofs.Numbered.{numbered_found, leaves, counted_from}

-- ---- lists behind one another

pub left_among : {X : Type 0} (x : X) (xs ys : List X) → Among x xs → Among x (xs ++ ys)
left_among x [] ys h = absurd h
left_among x (y ∷ xs) ys (inl e) = inl e
left_among x (y ∷ xs) ys (inr h) = inr (left_among x xs ys h)

pub right_among : {X : Type 0} (x : X) (xs ys : List X) → Among x ys → Among x (xs ++ ys)
right_among x [] ys h = h
right_among x (y ∷ xs) ys h = inr (right_among x xs ys h)

among_either : {X : Type 0} (x : X) (xs ys : List X) → Among x (xs ++ ys) → Among x xs ⊎ Among x ys
among_either x [] ys h = inr h
among_either x (y ∷ xs) ys (inl e) = inl (inl e)
among_either x (y ∷ xs) ys (inr h) = on (among_either x xs ys h)
  where
    on : Among x xs ⊎ Among x ys → Among x (y ∷ xs) ⊎ Among x ys
    on (inl a) = inl (inr a)
    on (inr a) = inr a

among_flat : (f : Node → List Goal) (nodes : List Node) (node : Node) (g : Goal) → Among node nodes → Among g (f node) → Among g (flat_map f nodes)
among_flat f [] node g n h = absurd n
among_flat f (x ∷ nodes) node g (inl e) h = left_among g (f x) (flat_map f nodes) (subst (λ y. Among g (f y)) (sym e) h)
among_flat f (x ∷ nodes) node g (inr n) h = right_among g (f x) (flat_map f nodes) (among_flat f nodes node g n h)

flat_among : (f : Node → List Goal) (nodes : List Node) (g : Goal) → Among g (flat_map f nodes) → (node : Node) × Among g (f node)
flat_among f [] g h = absurd h
flat_among f (x ∷ nodes) g h = on (among_either g (f x) (flat_map f nodes) h) (λ a. flat_among f nodes g a)
  where
    on : Among g (f x) ⊎ Among g (flat_map f nodes) → (Among g (flat_map f nodes) → (node : Node) × Among g (f node)) → (node : Node) × Among g (f node)
    on (inl a) rest = (x, a)
    on (inr a) rest = rest a

-- ---- numbers of links

same_source : (a b : Node) → is_node a b ≡ true → b ≡ a
same_source Start Start h = refl
same_source Start (At g) h = absurd (cc)
same_source Start Null h = absurd (cc)
same_source (At f) Start h = absurd (cc)
same_source (At f) (At g) h = ap At (sym ((Decides-eqb f g).0 h))
same_source (At f) Null h = absurd (cc)
same_source Null Start h = absurd (cc)
same_source Null (At g) h = absurd (cc)
same_source Null Null h = refl

module _ (node : Node) where
  abbrev IsThere : List Arrow → ℕ → Arrow → Type 0
  IsThere links k link = (i : ℕ) × (slice_get links i ≡ Some link) × (leaves node link ≡ true) × (count_by (leaves node) (take i links) ≡ k)

  there_in : (b : Bool) (l : Arrow) (ls : List Arrow) (k : ℕ) (link : Arrow) → leaves node l ≡ b → slice_get (cond b (l ∷ filter (leaves node) ls) (filter (leaves node) ls)) k ≡ Some link
      → ((j : ℕ) → slice_get (filter (leaves node) ls) j ≡ Some link → IsThere ls j link) → IsThere (l ∷ ls) k link
  there_in true l ls zero link e h rest = let s = some_same l link h in (0, h, ap (λ (x : Arrow). leaves node x) (sym s) ∙ e, refl)
  there_in true l ls (suc k) link e h rest =
      let r = rest k h in
      (suc r.0, r.1, r.2, counted_from node (0 + cond (leaves node l) 1 0) (take r.0 ls) ∙ one_more (cond (leaves node l) 1 0) (count_by (leaves node) (take r.0 ls)) k (ap (λ (b : Bool). cond b 1 0) e) r.3)
    where
      one_more : (c n k : ℕ) → c ≡ 1 → n ≡ k → (0 + c) + n ≡ suc k
      one_more c n k p q = omega (arith, p, q)
  there_in false l ls k link e h rest =
      let r = rest k h in
      (suc r.0, r.1, r.2, counted_from node (0 + cond (leaves node l) 1 0) (take r.0 ls) ∙ no_more (cond (leaves node l) 1 0) (count_by (leaves node) (take r.0 ls)) k (ap (λ (b : Bool). cond b 1 0) e) r.3)
    where
      no_more : (c n k : ℕ) → c ≡ 0 → n ≡ k → (0 + c) + n ≡ k
      no_more c n k p q = omega (arith, p, q)

  is_there : (links : List Arrow) (k : ℕ) (link : Arrow) → slice_get (filter (leaves node) links) k ≡ Some link → IsThere links k link
  is_there [] k link h = absurd (cc)
  is_there (l ∷ ls) k link h = there_in (leaves node l) l ls k link refl h (λ j r. is_there ls j link r)

-- the link at a place among those of its node has the number
numbered_at : (m : Graph) (node : Node) (k : ℕ) (link : Arrow) → slice_get (links_at m node) k ≡ Some link → (i : ℕ) × IsNumbered m node (1 + k) i link
numbered_at m node k link h =
    let r = is_there node m.links k link h in
    (r.0, record { is = r.1; source = same_source node link.source r.2; number = next k (count_by (leaves node) (take r.0 m.links)) r.3 })
  where
    next : (k n : ℕ) → n ≡ k → 1 + k ≡ n + 1
    next k n e = omega (arith, e)

-- ---- the checks of one link

module _ (domains : List Domain) (m : Graph) where
  if_among : (b : Bool) (g : Goal) (rest : List Goal) → b ≡ true → Among g ((if b then g ∷ [] else []) ++ rest)
  if_among true g rest h = inl refl
  if_among false g rest h = absurd (cc)

  among_if : (b : Bool) (g x : Goal) → Among x (if b then g ∷ [] else []) → (b ≡ true) × (g ≡ x)
  among_if true g x (inl e) = (refl, e)
  among_if true g x (inr a) = absurd a
  among_if false g x h = absurd h

  among_checks : (check : LinkCheck) (node : Node) (n : ℕ) (links : List Arrow) (k : ℕ) (link : Arrow) → slice_get links k ≡ Some link → Listed.is_checked domains m check link.target ≡ true → Among (goal_of check node (n + k)) (Listed.checks_from domains m check node n links)
  among_checks check node n [] k link h c = absurd (cc)
  among_checks check node n (l ∷ ls) zero link h c =
      let b = ap (λ (x : Arrow). Listed.is_checked domains m check x.target) (some_same l link h) ∙ c in
      subst (λ j. Among (goal_of check node j) (Listed.checks_from domains m check node n (l ∷ ls))) (same n) (if_among (Listed.is_checked domains m check l.target) (goal_of check node n) (Listed.checks_from domains m check node (n + 1) ls) b)
    where
      same : (n : ℕ) → n ≡ n + 0
      same n = omega arith
  among_checks check node n (l ∷ ls) (suc k) link h c =
      subst (λ j. Among (goal_of check node j) (Listed.checks_from domains m check node n (l ∷ ls))) (next n k)
      (right_among (goal_of check node ((n + 1) + k)) (if Listed.is_checked domains m check l.target then goal_of check node n ∷ [] else []) (Listed.checks_from domains m check node (n + 1) ls) (among_checks check node (n + 1) ls k link h c))
    where
      next : (n k : ℕ) → (n + 1) + k ≡ n + suc k
      next n k = omega arith

  abbrev IsListed : LinkCheck → Node → ℕ → List Arrow → Goal → Type 0
  IsListed check node n links g = (k : ℕ) × (link : Arrow) × (slice_get links k ≡ Some link) × (Listed.is_checked domains m check link.target ≡ true) × (goal_of check node (n + k) ≡ g)

  checks_among : (check : LinkCheck) (node : Node) (n : ℕ) (links : List Arrow) (g : Goal) → Among g (Listed.checks_from domains m check node n links) → IsListed check node n links g
  checks_among check node n [] g h = absurd h
  checks_among check node n (l ∷ ls) g h =
      on (among_either g (if Listed.is_checked domains m check l.target then goal_of check node n ∷ [] else []) (Listed.checks_from domains m check node (n + 1) ls) h) (λ a. checks_among check node (n + 1) ls g a)
    where
      same : (n : ℕ) → n + 0 ≡ n
      same n = omega arith

      next : (n k : ℕ) → n + suc k ≡ (n + 1) + k
      next n k = omega arith

      on : Among g (if Listed.is_checked domains m check l.target then goal_of check node n ∷ [] else []) ⊎ Among g (Listed.checks_from domains m check node (n + 1) ls) → (Among g (Listed.checks_from domains m check node (n + 1) ls) → IsListed check node (n + 1) ls g) → IsListed check node n (l ∷ ls) g
      on (inl a) rest = let p = among_if (Listed.is_checked domains m check l.target) (goal_of check node n) g a in (0, l, refl, p.0, ap (λ (j : ℕ). goal_of check node j) (same n) ∙ p.1)
      on (inr a) rest = let r = rest a in (suc r.0, r.1, r.2, r.3, ap (λ (j : ℕ). goal_of check node j) (next n r.0) ∙ r.4)

  -- ---- pairs of links

  among_with : (node : Node) (a b : ℕ) (links : List Arrow) (k : ℕ) (link : Arrow) → slice_get links k ≡ Some link → Among (goal.Exclusive node a (b + k)) (Listed.pairs_with domains m node a b links)
  among_with node a b [] k link h = absurd (cc)
  among_with node a b (l ∷ ls) zero link h = inl (ap (λ (j : ℕ). goal.Exclusive node a j) (same b))
    where
      same : (n : ℕ) → n ≡ n + 0
      same n = omega arith
  among_with node a b (l ∷ ls) (suc k) link h = inr (subst (λ j. Among (goal.Exclusive node a j) (Listed.pairs_with domains m node a (b + 1) ls)) (next b k) (among_with node a (b + 1) ls k link h))
    where
      next : (n k : ℕ) → (n + 1) + k ≡ n + suc k
      next n k = omega arith

  abbrev IsWith : Node → ℕ → ℕ → List Arrow → Goal → Type 0
  IsWith node a b links g = (k : ℕ) × (link : Arrow) × (slice_get links k ≡ Some link) × (goal.Exclusive node a (b + k) ≡ g)

  with_among : (node : Node) (a b : ℕ) (links : List Arrow) (g : Goal) → Among g (Listed.pairs_with domains m node a b links) → IsWith node a b links g
  with_among node a b [] g h = absurd h
  with_among node a b (l ∷ ls) g (inl e) = (0, l, refl, ap (λ (j : ℕ). goal.Exclusive node a j) (same b) ∙ e)
    where
      same : (n : ℕ) → n + 0 ≡ n
      same n = omega arith
  with_among node a b (l ∷ ls) g (inr h) = let r = with_among node a (b + 1) ls g h in (suc r.0, r.1, r.2, ap (λ (j : ℕ). goal.Exclusive node a j) (next b r.0) ∙ r.3)
    where
      next : (n k : ℕ) → n + suc k ≡ (n + 1) + k
      next n k = omega arith

  among_pairs : (node : Node) (a : ℕ) (links : List Arrow) (k j : ℕ) (link other : Arrow) → k < j → slice_get links k ≡ Some link → slice_get links j ≡ Some other → Among (goal.Exclusive node (a + k) (a + j)) (Listed.pairs_from domains m node a links)
  among_pairs node a [] k j link other l h g = absurd (cc)
  among_pairs node a (x ∷ xs) zero zero link other l h g = absurd (omega (arith, l))
  among_pairs node a (x ∷ xs) zero (suc j) link other l h g =
      left_among (goal.Exclusive node (a + 0) (a + suc j)) (Listed.pairs_with domains m node a (a + 1) xs) (Listed.pairs_from domains m node (a + 1) xs)
      (subst (λ i. Among (goal.Exclusive node i (a + suc j)) (Listed.pairs_with domains m node a (a + 1) xs)) (same a)
      (subst (λ i. Among (goal.Exclusive node a i) (Listed.pairs_with domains m node a (a + 1) xs)) (next a j) (among_with node a (a + 1) xs j other g)))
    where
      same : (n : ℕ) → n ≡ n + 0
      same n = omega arith

      next : (n k : ℕ) → (n + 1) + k ≡ n + suc k
      next n k = omega arith
  among_pairs node a (x ∷ xs) (suc k) zero link other l h g = absurd (omega (arith, l))
  among_pairs node a (x ∷ xs) (suc k) (suc j) link other l h g =
      right_among (goal.Exclusive node (a + suc k) (a + suc j)) (Listed.pairs_with domains m node a (a + 1) xs) (Listed.pairs_from domains m node (a + 1) xs)
      (subst (λ i. Among (goal.Exclusive node i (a + suc j)) (Listed.pairs_from domains m node (a + 1) xs)) (next a k)
      (subst (λ i. Among (goal.Exclusive node ((a + 1) + k) i) (Listed.pairs_from domains m node (a + 1) xs)) (next a j) (among_pairs node (a + 1) xs k j link other (omega (arith, l)) h g)))
    where
      next : (n k : ℕ) → (n + 1) + k ≡ n + suc k
      next n k = omega arith

  abbrev IsPair : Node → ℕ → List Arrow → Goal → Type 0
  IsPair node a links g = (k : ℕ) × (j : ℕ) × (link : Arrow) × (other : Arrow) × (k < j) × (slice_get links k ≡ Some link) × (slice_get links j ≡ Some other) × (goal.Exclusive node (a + k) (a + j) ≡ g)

  pairs_among : (node : Node) (a : ℕ) (links : List Arrow) (g : Goal) → Among g (Listed.pairs_from domains m node a links) → IsPair node a links g
  pairs_among node a [] g h = absurd h
  pairs_among node a (x ∷ xs) g h = on (among_either g (Listed.pairs_with domains m node a (a + 1) xs) (Listed.pairs_from domains m node (a + 1) xs) h) (λ t. pairs_among node (a + 1) xs g t)
    where
      same : (n : ℕ) → n + 0 ≡ n
      same n = omega arith

      next : (n k : ℕ) → n + suc k ≡ (n + 1) + k
      next n k = omega arith

      on : Among g (Listed.pairs_with domains m node a (a + 1) xs) ⊎ Among g (Listed.pairs_from domains m node (a + 1) xs) → (Among g (Listed.pairs_from domains m node (a + 1) xs) → IsPair node (a + 1) xs g) → IsPair node a (x ∷ xs) g
      on (inl t) rest =
          let r = with_among node a (a + 1) xs g t in
          (0, suc r.0, x, r.1, omega arith, refl, r.2, ap (λ (i : ℕ). goal.Exclusive node i (a + suc r.0)) (same a) ∙ ap (λ (i : ℕ). goal.Exclusive node a i) (next a r.0) ∙ r.3)
      on (inr t) rest =
          let r = rest t in
          (suc r.0, suc r.1, r.2, r.3, omega (arith, r.4), r.5, r.6, ap (λ (i : ℕ). goal.Exclusive node i (a + suc r.1)) (next a r.0) ∙ ap (λ (i : ℕ). goal.Exclusive node ((a + 1) + r.0) i) (next a r.1) ∙ r.7)

  -- ---- fields

  among_reached : (f : ℕ) (fields : List Field) (k : ℕ) → k < length fields → Among (goal.Reached (f + k)) (Listed.reached_from domains m f fields)
  among_reached f [] k h = absurd (omega (arith, h))
  among_reached f (x ∷ xs) zero h = inl (ap (λ (j : ℕ). goal.Reached j) (same f))
    where
      same : (n : ℕ) → n ≡ n + 0
      same n = omega arith
  among_reached f (x ∷ xs) (suc k) h = inr (subst (λ j. Among (goal.Reached j) (Listed.reached_from domains m (f + 1) xs)) (next f k) (among_reached (f + 1) xs k (omega (arith, h))))
    where
      next : (n k : ℕ) → (n + 1) + k ≡ n + suc k
      next n k = omega arith

  reached_among : (f : ℕ) (fields : List Field) (g : Goal) → Among g (Listed.reached_from domains m f fields) → (k : ℕ) × (k < length fields) × (goal.Reached (f + k) ≡ g)
  reached_among f [] g h = absurd h
  reached_among f (x ∷ xs) g (inl e) = (0, omega arith, ap (λ (j : ℕ). goal.Reached j) (same f) ∙ e)
    where
      same : (n : ℕ) → n + 0 ≡ n
      same n = omega arith
  reached_among f (x ∷ xs) g (inr h) = let r = reached_among (f + 1) xs g h in (suc r.0, omega (arith, r.1), ap (λ (j : ℕ). goal.Reached j) (next f r.0) ∙ r.2)
    where
      next : (n k : ℕ) → n + suc k ≡ (n + 1) + k
      next n k = omega arith

  among_nodes : (f : ℕ) (fields : List Field) (k : ℕ) → k < length fields → Among (At (f + k)) (nodes_from f fields)
  among_nodes f [] k h = absurd (omega (arith, h))
  among_nodes f (x ∷ xs) zero h = inl (ap (λ (j : ℕ). At j) (same f))
    where
      same : (n : ℕ) → n ≡ n + 0
      same n = omega arith
  among_nodes f (x ∷ xs) (suc k) h = inr (subst (λ j. Among (At j) (nodes_from (f + 1) xs)) (next f k) (among_nodes (f + 1) xs k (omega (arith, h))))
    where
      next : (n k : ℕ) → (n + 1) + k ≡ n + suc k
      next n k = omega arith

  source_among : (node : Node) → IsSource domains m node → Among node (nodes_of m)
  source_among Start h = inl refl
  source_among (At f) h = inr (subst (λ j. Among (At j) (nodes_from 0 m.fields)) (same f) (among_nodes 0 m.fields f h))
    where
      same : (n : ℕ) → 0 + n ≡ n
      same n = omega arith
  source_among Null h = absurd h

  -- ---- which links have which check

  absent : {X : Type 0} (o : Option X) → is_absent o ≡ true → o ≡ None
  absent None h = refl
  absent (Some x) h = absurd (cc)

  present : {X : Type 0} (o : Option X) → is_present o ≡ true → (x : X) × (o ≡ Some x)
  present None h = absurd (cc)
  present (Some x) h = (x, refl)

  -- what a link has whose target has the check
  abbrev Suits : LinkCheck → Node → Type 0
  Suits Taken target = Unit {0}
  Suits Position target = (f : ℕ) × (target ≡ At f)
  Suits Grid target = (f : ℕ) × (target ≡ At f) × (type_of domains m f ≡ None)
  Suits Overlay target = (f : ℕ) × (x : ℕ) × (target ≡ At f) × (overlay_of (slice_get m.fields f) ≡ Some x)
  Suits Cover target = Unit {0}
  Suits Whole target = target ≡ Null

  suits : (check : LinkCheck) (target : Node) → Listed.is_checked domains m check target ≡ true → Suits check target
  suits Taken target h = tt
  suits Cover target h = tt
  suits Position Start h = absurd (cc)
  suits Position (At f) h = (f, refl)
  suits Position Null h = absurd (cc)
  suits Grid Start h = absurd (cc)
  suits Grid (At f) h = (f, refl, absent (type_of domains m f) h)
  suits Grid Null h = absurd (cc)
  suits Overlay Start h = absurd (cc)
  suits Overlay (At f) h = let p = present (overlay_of (slice_get m.fields f)) h in (f, p.0, refl, p.1)
  suits Overlay Null h = absurd (cc)
  suits Whole Start h = absurd (cc)
  suits Whole (At f) h = absurd (cc)
  suits Whole Null h = refl

  checked : (check : LinkCheck) (target : Node) → Suits check target → Listed.is_checked domains m check target ≡ true
  checked Taken target h = refl
  checked Cover target h = refl
  checked Position target h = ap (λ (t : Node). Listed.is_checked domains m Position t) h.1
  checked Grid target h = ap (λ (t : Node). Listed.is_checked domains m Grid t) h.1 ∙ ap is_absent h.2
  checked Overlay target h = ap (λ (t : Node). Listed.is_checked domains m Overlay t) h.2 ∙ ap is_present h.3
  checked Whole target h = ap (λ (t : Node). Listed.is_checked domains m Whole t) h

  -- the goal of a check and a number, where the node has such a link
  abbrev HasCheck : LinkCheck → Node → ℕ → Type 0
  HasCheck check node n = Goals.HasLink domains m node n (λ link. Suits check link.target)

  is_goal_of : (check : LinkCheck) (node : Node) (n : ℕ) → HasCheck check node n → IsGoal domains m (goal_of check node n)
  is_goal_of Taken node n h = (h.0, h.1, h.2, tt)
  is_goal_of Position node n h = h
  is_goal_of Grid node n h = h
  is_goal_of Overlay node n h = h
  is_goal_of Cover node n h = (h.0, h.1, h.2, tt)
  is_goal_of Whole node n h = h

  checks_are_goals : (check : LinkCheck) (g : Goal) → Among g (Listed.checks_of domains m check) → IsGoal domains m g
  checks_are_goals check g h =
      let p = flat_among (λ node. Listed.checks_from domains m check node 1 (links_at m node)) (nodes_of m) g h in
      let r = checks_among check p.0 1 (links_at m p.0) g p.1 in
      let n = numbered_at m p.0 r.0 r.1 r.2 in
      subst (λ x. IsGoal domains m x) r.4 (is_goal_of check p.0 (1 + r.0) (n.0, r.1, n.1, suits check r.1.target r.3))

  pairs_are_goals : (g : Goal) → Among g (Listed.pairs_of domains m) → IsGoal domains m g
  pairs_are_goals g h =
      let p = flat_among (λ node. Listed.pairs_from domains m node 1 (links_at m node)) (nodes_of m) g h in
      let r = pairs_among p.0 1 (links_at m p.0) g p.1 in
      let a = numbered_at m p.0 r.0 r.2 r.5 in
      let b = numbered_at m p.0 r.1 r.3 r.6 in
      subst (λ x. IsGoal domains m x) r.7 (more r.0 r.1 r.4, (a.0, r.2, a.1, tt), (b.0, r.3, b.1, tt))
    where
      more : (k j : ℕ) → k < j → 1 + k < 1 + j
      more k j h = omega (arith, h)

  reached_are_goals : (g : Goal) → Among g (Listed.reached_from domains m 0 m.fields) → IsGoal domains m g
  reached_are_goals g h =
      let r = reached_among 0 m.fields g h in
      subst (λ x. IsGoal domains m x) r.2 (within r.0 r.1)
    where
      within : (k : ℕ) → k < length m.fields → 0 + k < length m.fields
      within k h = omega (arith, h)

  by_either : {A B C : Type 0} → A ⊎ B → (A → C) → (B → C) → C
  by_either (inl a) f g = f a
  by_either (inr b) f g = g b

  pub listed_are_goals : (g : Goal) → Among g (Listed.all_goals domains m) → IsGoal domains m g
  listed_are_goals g h =
      let checks : LinkCheck → List Goal = Listed.checks_of domains m in
      let six = checks Cover ++ checks Whole in
      let five = checks Overlay ++ six in
      let four = checks Grid ++ five in
      let three = checks Position ++ four in
      let two = Listed.reached_from domains m 0 m.fields ++ three in
      let one = checks Taken ++ two in
      by_either (among_either g (Listed.pairs_of domains m) one h) (λ a. pairs_are_goals g a)
      (λ t. by_either (among_either g (checks Taken) two t) (λ a. checks_are_goals Taken g a)
      (λ u. by_either (among_either g (Listed.reached_from domains m 0 m.fields) three u) (λ a. reached_are_goals g a)
      (λ v. by_either (among_either g (checks Position) four v) (λ a. checks_are_goals Position g a)
      (λ w. by_either (among_either g (checks Grid) five w) (λ a. checks_are_goals Grid g a)
      (λ x. by_either (among_either g (checks Overlay) six x) (λ a. checks_are_goals Overlay g a)
      (λ y. by_either (among_either g (checks Cover) (checks Whole) y) (λ a. checks_are_goals Cover g a) (λ z. checks_are_goals Whole g z)))))))

  -- ---- every goal is listed

  module _ (el : IsElaborated domains m) where
    source_of : (node : Node) (n i : ℕ) (link : Arrow) → IsNumbered m node n i link → Among node (nodes_of m)
    source_of node n i link num = source_among node (subst (λ x. IsSource domains m x) num.source (el.links i link num.is).source)

    one_less : (node : Node) (n i : ℕ) (link : Arrow) → IsNumbered m node n i link → 1 + (n - 1) ≡ n
    one_less node n i link num = least n (count_by (λ l. is_node node l.source) (take i m.links)) num.number
      where
        least : (n k : ℕ) → n ≡ k + 1 → 1 + (n - 1) ≡ n
        least n k e = omega (arith, e)

    check_listed : (check : LinkCheck) (node : Node) (n : ℕ) → HasCheck check node n → Among (goal_of check node n) (Listed.checks_of domains m check)
    check_listed check node n h =
        among_flat (λ x. Listed.checks_from domains m check x 1 (links_at m x)) (nodes_of m) node (goal_of check node n) (source_of node n h.0 h.1 h.2)
        (subst (λ k. Among (goal_of check node k) (Listed.checks_from domains m check node 1 (links_at m node))) (one_less node n h.0 h.1 h.2)
        (among_checks check node 1 (links_at m node) (n - 1) h.1 (numbered_found m node n h.0 h.1 h.2) (checked check h.1.target h.3)))

    pair_listed : (node : Node) (a b : ℕ) → IsGoal domains m (goal.Exclusive node a b) → Among (goal.Exclusive node a b) (Listed.pairs_of domains m)
    pair_listed node a b h =
        let p = h.1 in
        let q = h.2 in
        let ea = one_less node a p.0 p.1 p.2 in
        let eb = one_less node b q.0 q.1 q.2 in
        among_flat (λ x. Listed.pairs_from domains m x 1 (links_at m x)) (nodes_of m) node (goal.Exclusive node a b) (source_of node a p.0 p.1 p.2)
        (subst (λ k. Among (goal.Exclusive node k b) (Listed.pairs_from domains m node 1 (links_at m node))) ea
        (subst (λ k. Among (goal.Exclusive node (1 + (a - 1)) k) (Listed.pairs_from domains m node 1 (links_at m node))) eb
        (among_pairs node 1 (links_at m node) (a - 1) (b - 1) p.1 q.1 (omega (arith, h.0, ea, eb)) (numbered_found m node a p.0 p.1 p.2) (numbered_found m node b q.0 q.1 q.2))))

    field_listed : (f : ℕ) → f < length m.fields → Among (goal.Reached f) (Listed.reached_from domains m 0 m.fields)
    field_listed f h = subst (λ k. Among (goal.Reached k) (Listed.reached_from domains m 0 m.fields)) (same f) (among_reached 0 m.fields f h)
      where
        same : (n : ℕ) → 0 + n ≡ n
        same n = omega arith

    pub goals_are_listed : (g : Goal) → IsGoal domains m g → Among g (Listed.all_goals domains m)
    goals_are_listed (goal.Exclusive node a b) h = left_among _ (Listed.pairs_of domains m) _ (pair_listed node a b h)
    goals_are_listed (goal.Taken node n) h = right_among _ (Listed.pairs_of domains m) _ (left_among _ (Listed.checks_of domains m Taken) _ (check_listed Taken node n (h.0, h.1, h.2, tt)))
    goals_are_listed (goal.Reached f) h =
        right_among _ (Listed.pairs_of domains m) _ (right_among _ (Listed.checks_of domains m Taken) _ (left_among _ (Listed.reached_from domains m 0 m.fields) _ (field_listed f h)))
    goals_are_listed (goal.Position node n) h =
        right_among _ (Listed.pairs_of domains m) _ (right_among _ (Listed.checks_of domains m Taken) _ (right_among _ (Listed.reached_from domains m 0 m.fields) _
        (left_among _ (Listed.checks_of domains m Position) _ (check_listed Position node n h))))
    goals_are_listed (goal.Grid node n) h =
        right_among _ (Listed.pairs_of domains m) _ (right_among _ (Listed.checks_of domains m Taken) _ (right_among _ (Listed.reached_from domains m 0 m.fields) _
        (right_among _ (Listed.checks_of domains m Position) _ (left_among _ (Listed.checks_of domains m Grid) _ (check_listed Grid node n h)))))
    goals_are_listed (goal.Overlay node n) h =
        right_among _ (Listed.pairs_of domains m) _ (right_among _ (Listed.checks_of domains m Taken) _ (right_among _ (Listed.reached_from domains m 0 m.fields) _
        (right_among _ (Listed.checks_of domains m Position) _ (right_among _ (Listed.checks_of domains m Grid) _ (left_among _ (Listed.checks_of domains m Overlay) _ (check_listed Overlay node n h))))))
    goals_are_listed (goal.Cover node n) h =
        right_among _ (Listed.pairs_of domains m) _ (right_among _ (Listed.checks_of domains m Taken) _ (right_among _ (Listed.reached_from domains m 0 m.fields) _
        (right_among _ (Listed.checks_of domains m Position) _ (right_among _ (Listed.checks_of domains m Grid) _ (right_among _ (Listed.checks_of domains m Overlay) _
        (left_among _ (Listed.checks_of domains m Cover) _ (check_listed Cover node n (h.0, h.1, h.2, tt))))))))
    goals_are_listed (goal.Whole node n) h =
        right_among _ (Listed.pairs_of domains m) _ (right_among _ (Listed.checks_of domains m Taken) _ (right_among _ (Listed.reached_from domains m 0 m.fields) _
        (right_among _ (Listed.checks_of domains m Position) _ (right_among _ (Listed.checks_of domains m Grid) _ (right_among _ (Listed.checks_of domains m Overlay) _
        (right_among _ (Listed.checks_of domains m Cover) _ (check_listed Whole node n h)))))))
