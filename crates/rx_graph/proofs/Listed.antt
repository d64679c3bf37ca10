-- The ways from the start to a node are all its paths, in order, each once.
use Rattle.std.proofs.Common.{◌≡◌, refl, sym, ap, ◌∙◌, subst, List, [], ◌∷◌, ◌++◌, map, ℕ, zero, suc, ◌+◌, ◌<◌, ◌≤◌, Bool, true, false, Some, length, arith, ◌⊎◌, inl, inr}
use Rattle.std.specs.Prelude.{◌==◌, eqb, slice_get, Contains, if◌then◌else◌}
use Rattle.std.specs.List.{AllByRecursion, IsDistinct}
use Rattle.std.proofs.lemmas.Bool.Decides.{Decides-eqb}
use Rattle.std.proofs.lemmas.Map.Keys.{IsDistinct-cons}
use Rattle.std.proofs.lemmas.Map.Steps.{length-le_from_distinct_below}
use Rattle.std.proofs.lemmas.List.Elements.{Contains-append_left, Contains-append_right}
use Rattle.std.proofs.lemmas.List.{get_or-map, length-map}
use Rattle.std.proofs.lemmas.Option.{slice_get_within}
use Rattle.rx_types.specs.Domain.{EachPair}
use Rattle.rx_graph.specs.declared.message.Node.{Node}
use Rattle.rx_graph.specs.declared.message.Node.TheVariants.{Start, At, Null}
use Rattle.rx_graph.specs.declared.message.Link.{Link}
use Rattle.rx_graph.specs.Graph.{Arrow, Graph, arrows}
use Rattle.rx_graph.specs.Checks.{is_node}
use Rattle.rx_graph.specs.Cycles.{IsLink, IsPath, HasNoCycle, Precedes, ArePathsTo}
use Rattle.rx_graph.specs.Onward.{onward, by_each}
use Rattle.rx_graph.proofs.Ways.{onward_here, onward_none, onward_suc, behind_none, length-arrows}
use Rattle.rx_graph.proofs.Distinct.{members_below, not_true, nothing}
use Rattle.rx_graph.proofs.Exclusions.{is_itself}

-- ---- nodes and lists

pub same_node : (a b : Node) → is_node a b ≡ true → a ≡ b
same_node Start Start h = refl
same_node Start (At g) h = cc
same_node Start Null h = cc
same_node (At f) Start h = cc
same_node (At f) (At g) h = ap At ((Decides-eqb f g).0 h)
same_node (At f) Null h = cc
same_node Null Start h = cc
same_node Null (At g) h = cc
same_node Null Null h = refl

-- a node is the end or another one
decided : (b : Bool) → (b ≡ true) ⊎ (b ≡ false)
decided true = inl refl
decided false = inr refl

all_append : (P : List ℕ → Type 0) (xs ys : List (List ℕ)) → AllByRecursion P xs → AllByRecursion P ys → AllByRecursion P (xs ++ ys)
all_append P [] ys h k = k
all_append P (x ∷ xs) ys h k = (h.0, all_append P xs ys h.1 k)

all_map : (P Q : List ℕ → Type 0) (i : ℕ) (xs : List (List ℕ)) → ((p : List ℕ) → P p → Q (i ∷ p)) → AllByRecursion P xs → AllByRecursion Q (map (λ p. i ∷ p) xs)
all_map P Q i [] f h = tt
all_map P Q i (x ∷ xs) f h = (f x h.0, all_map P Q i xs f h.1)

all_if : (P : List ℕ → Type 0) (b : Bool) (xs : List (List ℕ)) → (b ≡ true → AllByRecursion P xs) → AllByRecursion P (if b then xs else [])
all_if P true xs h = h refl
all_if P false xs h = tt

all_of : (P Q : List ℕ → Type 0) (xs : List (List ℕ)) → ((p : List ℕ) → P p → Q p) → AllByRecursion P xs → AllByRecursion Q xs
all_of P Q [] f h = tt
all_of P Q (x ∷ xs) f h = (f x h.0, all_of P Q xs f h.1)

all_there : (xs : List (List ℕ)) → AllByRecursion (λ p. Unit {0}) xs
all_there [] = tt
all_there (x ∷ xs) = (tt, all_there xs)

pairs_append : (R : List ℕ → List ℕ → Type 0) (xs ys : List (List ℕ)) → EachPair R xs → EachPair R ys → AllByRecursion (λ x. AllByRecursion (λ y. R x y) ys) xs → EachPair R (xs ++ ys)
pairs_append R [] ys h k c = k
pairs_append R (x ∷ xs) ys h k c = (all_append (λ y. R x y) xs ys h.0 c.0, pairs_append R xs ys h.1 k c.1)

pairs_map : (i : ℕ) (xs : List (List ℕ)) → EachPair Precedes xs → EachPair Precedes (map (λ p. i ∷ p) xs)
pairs_map i [] h = tt
pairs_map i (x ∷ xs) h = (all_map (λ y. Precedes x y) (λ y. Precedes (i ∷ x) y) i xs (λ p k. inr (refl, k)) h.0, pairs_map i xs h.1)

pairs_if : (b : Bool) (xs : List (List ℕ)) → EachPair Precedes xs → EachPair Precedes (if b then xs else [])
pairs_if true xs h = h
pairs_if false xs h = tt

contains_map : (i : ℕ) (xs : List (List ℕ)) (q : List ℕ) → Contains xs q → Contains (map (λ p. i ∷ p) xs) (i ∷ q)
contains_map i xs q c =
    (c.0, omega (arith, c.1, length-map xs (λ p. i ∷ p)), get_or-map (λ p. i ∷ p) xs c.0 q (i ∷ q) c.1 ∙ ap (λ p. i ∷ p) c.2)

-- ---- what is listed is a path

-- the path begins with link i or a later one
abbrev BeginsFrom : ℕ → List ℕ → Type 0
BeginsFrom i [] = ⊥
BeginsFrom i (j ∷ p) = i ≤ j

begins_later : (i : ℕ) (p : List ℕ) → BeginsFrom (i + 1) p → BeginsFrom i p
begins_later i [] h = h
begins_later i (j ∷ p) h = omega (arith, h)

precedes_later : (i : ℕ) (p q : List ℕ) → BeginsFrom (i + 1) q → Precedes (i ∷ p) q
precedes_later i p [] h = h
precedes_later i p (j ∷ q) h = let lt : i < j = omega (arith, h) in inl lt

each_begins : (go : Node → List (List ℕ)) (at : Node) (i : ℕ) (rest : List Arrow) → AllByRecursion (BeginsFrom i) (by_each go at i rest)
each_begins go at i [] = tt
each_begins go at i (link ∷ rest) =
    all_append (BeginsFrom i) (if is_node link.source at then map (λ p. i ∷ p) (go link.target) else []) (by_each go at (i + 1) rest)
    (all_if (BeginsFrom i) (is_node link.source at) (map (λ p. i ∷ p) (go link.target)) (λ t. all_map (λ p. Unit {0}) (BeginsFrom i) i (go link.target) (λ p h. omega arith) (all_there (go link.target))))
    (all_of (BeginsFrom (i + 1)) (BeginsFrom i) (by_each go at (i + 1) rest) (begins_later i) (each_begins go at (i + 1) rest))

each_ordered : (go : Node → List (List ℕ)) (at : Node) → ((n : Node) → EachPair Precedes (go n)) → (i : ℕ) (rest : List Arrow) → EachPair Precedes (by_each go at i rest)
each_ordered go at ok i [] = tt
each_ordered go at ok i (link ∷ rest) =
    let later = by_each go at (i + 1) rest in
    let after = each_begins go at (i + 1) rest in
    pairs_append Precedes (if is_node link.source at then map (λ p. i ∷ p) (go link.target) else []) later (pairs_if (is_node link.source at) (map (λ p. i ∷ p) (go link.target)) (pairs_map i (go link.target) (ok link.target))) (each_ordered go at ok (i + 1) rest)
    (all_if (λ x. AllByRecursion (λ y. Precedes x y) later) (is_node link.source at) (map (λ p. i ∷ p) (go link.target))
    (λ t. all_map (λ p. Unit {0}) (λ x. AllByRecursion (λ y. Precedes x y) later) i (go link.target) (λ p h. all_of (BeginsFrom (i + 1)) (λ y. Precedes (i ∷ p) y) later (precedes_later i p) after) (all_there (go link.target))))

-- a link of the list is taken at its place
each_has : (go : Node → List (List ℕ)) (at : Node) (q : List ℕ) (link : Arrow) → link.source ≡ at → Contains (go link.target) q → (rest : List Arrow) (i j : ℕ) → slice_get rest j ≡ Some link → Contains (by_each go at i rest) ((i + j) ∷ q)
each_has go at q link source c [] i zero h = cc
each_has go at q link source c [] i (suc j) h = cc
each_has go at q link source c (l ∷ rest) i zero h =
    let same : l ≡ link = cc in
    let here : is_node l.source at ≡ true = ap (λ (x : Arrow). is_node x.source at) same ∙ ap (λ n. is_node n at) source ∙ is_itself at in
    let there : Contains (go l.target) q = subst (λ (x : Arrow). Contains (go x.target) q) (sym same) c in
    let place : i + 0 ≡ i = omega arith in
    let one : Contains (if is_node l.source at then map (λ p. i ∷ p) (go l.target) else []) (i ∷ q) = subst (λ (b : Bool). Contains (if b then map (λ p. i ∷ p) (go l.target) else []) (i ∷ q)) (sym here) (contains_map i (go l.target) q there) in
    subst (λ k. Contains (by_each go at i (l ∷ rest)) (k ∷ q)) (sym place) (Contains-append_left (if is_node l.source at then map (λ p. i ∷ p) (go l.target) else []) (by_each go at (i + 1) rest) (i ∷ q) one)
each_has go at q link source c (l ∷ rest) i (suc j) h =
    let place : (i + 1) + j ≡ i + suc j = omega arith in
    subst (λ k. Contains (by_each go at i (l ∷ rest)) (k ∷ q)) place
    (Contains-append_right (if is_node l.source at then map (λ p. i ∷ p) (go l.target) else []) (by_each go at (i + 1) rest) (((i + 1) + j) ∷ q) (each_has go at q link source c rest (i + 1) j h))

module _ (m : Graph) (end : Node) where
  first_link : (i : ℕ) (link : Arrow) (rest : List Arrow) → ((j : ℕ) (l : Arrow) → slice_get (link ∷ rest) j ≡ Some l → IsLink m (i + j) l) → IsLink m i link
  first_link i link rest h = let e : i + 0 ≡ i = omega arith in subst (λ k. IsLink m k link) e (h 0 link refl)

  next_links : (i : ℕ) (link : Arrow) (rest : List Arrow) → ((j : ℕ) (l : Arrow) → slice_get (link ∷ rest) j ≡ Some l → IsLink m (i + j) l) → (j : ℕ) (l : Arrow) → slice_get rest j ≡ Some l → IsLink m ((i + 1) + j) l
  next_links i link rest h j l k = let e : i + suc j ≡ (i + 1) + j = omega arith in subst (λ n. IsLink m n l) e (h (suc j) l k)

  each_alone : (go : Node → List (List ℕ)) (at : Node) → ((n : Node) → AllByRecursion (λ p. IsPath m n p end) (go n)) → (i : ℕ) (rest : List Arrow) → ((j : ℕ) (l : Arrow) → slice_get rest j ≡ Some l → IsLink m (i + j) l) → AllByRecursion (λ p. IsPath m at p end) (by_each go at i rest)
  each_alone go at ok i [] from = tt
  each_alone go at ok i (link ∷ rest) from =
      all_append (λ p. IsPath m at p end) (if is_node link.source at then map (λ p. i ∷ p) (go link.target) else []) (by_each go at (i + 1) rest)
      (all_if (λ p. IsPath m at p end) (is_node link.source at) (map (λ p. i ∷ p) (go link.target))
      (λ t. all_map (λ p. IsPath m link.target p end) (λ p. IsPath m at p end) i (go link.target) (λ p h. (link, first_link i link rest from, same_node link.source at t, h)) (ok link.target)))
      (each_alone go at ok (i + 1) rest (next_links i link rest from))

  all_links : (j : ℕ) (l : Arrow) → slice_get m.links j ≡ Some l → IsLink m (0 + j) l
  all_links j l h = let e : j ≡ 0 + j = omega arith in subst (λ k. IsLink m k l) e h

  onward_alone : (k : ℕ) (at : Node) → AllByRecursion (λ p. IsPath m at p end) (onward m.links k end at)
  onward_alone zero at =
      elim (decided (is_node at end)) [
        | inl t ↦ subst (λ ps. AllByRecursion (λ p. IsPath m at p end) ps) (sym (onward_here m.links zero end at t)) (same_node at end t, tt)
        | inr f ↦ subst (λ ps. AllByRecursion (λ p. IsPath m at p end) ps) (sym (onward_none m.links zero end at f refl)) tt
      ]
  onward_alone (suc k) at =
      elim (decided (is_node at end)) [
        | inl t ↦ subst (λ ps. AllByRecursion (λ p. IsPath m at p end) ps) (sym (onward_here m.links (suc k) end at t)) (same_node at end t, tt)
        | inr f ↦ subst (λ ps. AllByRecursion (λ p. IsPath m at p end) ps) (sym (onward_suc m.links k end at f)) (each_alone (onward m.links k end) at (λ n. onward_alone k n) 0 m.links all_links)
      ]

  onward_ordered : (k : ℕ) (at : Node) → EachPair Precedes (onward m.links k end at)
  onward_ordered zero at =
      elim (decided (is_node at end)) [
        | inl t ↦ subst (λ ps. EachPair Precedes ps) (sym (onward_here m.links zero end at t)) (tt, tt)
        | inr f ↦ subst (λ ps. EachPair Precedes ps) (sym (onward_none m.links zero end at f refl)) tt
      ]
  onward_ordered (suc k) at =
      elim (decided (is_node at end)) [
        | inl t ↦ subst (λ ps. EachPair Precedes ps) (sym (onward_here m.links (suc k) end at t)) (tt, tt)
        | inr f ↦ subst (λ ps. EachPair Precedes ps) (sym (onward_suc m.links k end at f)) (each_ordered (onward m.links k end) at (λ n. onward_ordered k n) 0 m.links)
      ]

  -- ---- every path is listed

  module _ (none : HasNoCycle m) where
    onward_has : (k : ℕ) (p : List ℕ) (at : Node) → IsPath m at p end → length p ≤ k → Contains (onward m.links k end at) p
    onward_has k [] at h le =
        let t : is_node at end ≡ true = ap (λ n. is_node n end) h ∙ is_itself end in
        subst (λ ps. Contains ps []) (sym (onward_here m.links k end at t)) (0, omega arith, refl)
    onward_has zero (i ∷ p) at h le = absurd (omega (arith, le))
    onward_has (suc k) (i ∷ p) at h le =
        elim (decided (is_node at end)) [
          | inl t ↦ absurd (none end i p (subst (λ n. IsPath m n (i ∷ p) end) (same_node at end t) h))
          | inr f ↦ (let e : 0 + i ≡ i = omega arith in
              let c : Contains (by_each (onward m.links k end) at 0 m.links) ((0 + i) ∷ p) = each_has (onward m.links k end) at p h.0 h.2 (onward_has k p h.0.target h.3 (omega (arith, le))) m.links 0 i h.1 in
              subst (λ ps. Contains ps (i ∷ p)) (sym (onward_suc m.links k end at f)) (subst (λ j. Contains (by_each (onward m.links k end) at 0 m.links) (j ∷ p)) e c))
        ]

    some_link : (a b : Arrow) → Some a ≡ Some b → a ≡ b
    some_link a b h = cc

    -- no link of a path that goes on from link i is link i
    apart : (at : Node) (i : ℕ) (link : Arrow) → IsLink m i link → link.source ≡ at → (from : Node) (q : List ℕ) (to : Node) → IsPath m from q to → ((r : List ℕ) → IsPath m from r at → ⊥) → AllByRecursion (λ j. i == j ≡ false) q
    apart at i link is source from [] to h back = tt
    apart at i link is source from (j ∷ q) to h back =
        (not_true (i == j) (λ t. back [] (sym h.2 ∙ ap (λ (l : Arrow). l.source) (some_link h.0 link (sym h.1 ∙ ap (λ n. slice_get m.links n) (sym ((Decides-eqb i j).0 t)) ∙ is)) ∙ source)), apart at i link is source h.0.target q to h.3 (λ r k. back (j ∷ r) (h.0, h.1, h.2, k)))

    distinct_links : (p : List ℕ) (at to : Node) → IsPath m at p to → IsDistinct eqb p
    distinct_links [] at to h = nothing
    distinct_links (i ∷ p) at to h =
        IsDistinct-cons eqb i p (apart at i h.0 h.1 h.2 h.0.target p to h.3 (λ r k. none at i r (h.0, h.1, h.2, k))) (distinct_links p h.0.target to h.3)

    links_below : (p : List ℕ) (at to : Node) → IsPath m at p to → AllByRecursion (λ i. i < length m.links) p
    links_below [] at to h = tt
    links_below (i ∷ p) at to h = (slice_get_within m.links i h.0 h.1, links_below p h.0.target to h.3)

    -- a path takes each link at most once
    short_path : (p : List ℕ) (at to : Node) → IsPath m at p to → length p ≤ length m.links
    short_path p at to h = length-le_from_distinct_below p (length m.links) (distinct_links p at to h) (members_below (length m.links) p (links_below p at to h))

    pub listed : ArePathsTo m end (onward m.links (length m.links) end Start)
    listed =
        record {
          all = λ path h. onward_has (length m.links) path Start h (short_path path Start end h);
          alone = onward_alone (length m.links) Start;
          ordered = onward_ordered (length m.links) Start;
        }

-- what is added to nothing, behind no link, for all links of a message
pub from_nothing : (links items : List Link) (done : List (List ℕ)) (front : List ℕ) (end : Node) → links ≡ items → done ≡ [] → front ≡ []
    → done ++ map (λ p. front ++ p) (onward (arrows links) (length links) end Start) ≡ onward (arrows items) (length (arrows items)) end Start
from_nothing links items done front end same none start =
    ap (λ (xs : List (List ℕ)). xs ++ map (λ p. front ++ p) (onward (arrows links) (length links) end Start)) none
    ∙ ap (λ (f : List ℕ). map (λ p. f ++ p) (onward (arrows links) (length links) end Start)) start
    ∙ behind_none (onward (arrows links) (length links) end Start)
    ∙ ap (λ (ls : List Link). onward (arrows ls) (length ls) end Start) same
    ∙ ap (λ (n : ℕ). onward (arrows items) n end Start) (sym (length-arrows items))
