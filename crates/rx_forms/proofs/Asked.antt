-- Lists of all nodes, paths and links hold each node, each path from the start to it, and each choice of its links.
use Rattle.std.proofs.Common.{◌≡◌, refl, sym, ap, ◌∙◌, subst, ℕ, zero, suc, ◌+◌, ◌<◌, List, [], ◌∷◌, ◌++◌, map, length, Bool, true, false, not, ◌&&◌, Some, slice_get, arith, ◌⊎◌, inl, inr}
use Rattle.std.specs.Prelude.{if◌then◌else◌}
use Rattle.std.specs.List.{AllByRecursion, list_all}
use Rattle.std.proofs.lemmas.List.Folds.{list_all-append}
use Rattle.rx_types.specs.Domain.{Domain}
use Rattle.rx_graph.specs.declared.message.Node.{Node}
use Rattle.rx_graph.specs.declared.message.Node.TheVariants.{Start, At, Null}
use Rattle.rx_graph.specs.declared.message.Field.{Field}
use Rattle.rx_graph.specs.Graph.{Arrow, Graph}
use Rattle.rx_graph.specs.Checks.{is_node}
use Rattle.rx_graph.specs.Elaborated.{IsElaborated}
use Rattle.rx_graph.specs.Onward.{onward}
use Rattle.rx_graph.proofs.Listed.{listed}
use Rattle.rx_graph.proofs.Exclusions.{is_itself}
use Rattle.rx_forms.specs.Steps.{passes_limit}
use Rattle.rx_forms.specs.PathLimit.{IsOut, numbers_from, ones_and_pairs, outs, keeps_limit_at, fields_from, every_node, keeps_limit, KeepsLimit}
use Rattle.rx_forms.proofs.Few.{IsNode, ends_at_node, holds_of}

-- ---- tests of lists

left_of : (a b : Bool) → (a && b) ≡ true → a ≡ true
left_of true b h = refl
left_of false b h = h

right_of : (a b : Bool) → (a && b) ≡ true → b ≡ true
right_of true b h = h
right_of false b h = cc

module _ {X : Type 0} (p : X → Bool) where
  front_of_both : (xs ys : List X) → list_all p (xs ++ ys) ≡ true → list_all p xs ≡ true
  front_of_both xs ys h = left_of (list_all p xs) (list_all p ys) (sym (list_all-append p xs ys) ∙ h)

  back_of_both : (xs ys : List X) → list_all p (xs ++ ys) ≡ true → list_all p ys ≡ true
  back_of_both xs ys h = right_of (list_all p xs) (list_all p ys) (sym (list_all-append p xs ys) ∙ h)

  each_passes : (xs : List X) → list_all p xs ≡ true → AllByRecursion (λ x. p x ≡ true) xs
  each_passes [] h = tt
  each_passes (x ∷ xs) h = (left_of (p x) (list_all p xs) h, each_passes xs (right_of (p x) (list_all p xs) h))

pub denied : (b : Bool) → not b ≡ true → b ≡ false
denied true h = cc
denied false h = refl

-- ---- choices of links

abbrev Has : List ℕ → ℕ → Type 0
Has [] i = ⊥
Has (j ∷ js) i = (j ≡ i) ⊎ Has js i

-- i, and behind it j
abbrev HasBoth : List ℕ → ℕ → ℕ → Type 0
HasBoth [] i j = ⊥
HasBoth (k ∷ ks) i j = ((k ≡ i) × Has ks j) ⊎ HasBoth ks i j

behind_some : (xs ys : List ℕ) (i : ℕ) → Has ys i → Has (xs ++ ys) i
behind_some [] ys i h = h
behind_some (x ∷ xs) ys i h = inr (behind_some xs ys i h)

both_behind_some : (xs ys : List ℕ) (i j : ℕ) → HasBoth ys i j → HasBoth (xs ++ ys) i j
both_behind_some [] ys i j h = h
both_behind_some (x ∷ xs) ys i j h = inr (both_behind_some xs ys i j h)

is_first : (b : Bool) (i : ℕ) (ys : List ℕ) → b ≡ true → Has ((if b then i ∷ [] else []) ++ ys) i
is_first true i ys h = inl refl
is_first false i ys h = cc

first_of_both : (b : Bool) (i j : ℕ) (ys : List ℕ) → b ≡ true → Has ys j → HasBoth ((if b then i ∷ [] else []) ++ ys) i j
first_of_both true i j ys h k = inl (refl, k)
first_of_both false i j ys h k = cc

some_arrow : (a b : Arrow) → Some a ≡ Some b → a ≡ b
some_arrow a b h = cc

leads : (node : Node) (a b : Arrow) → Some a ≡ Some b → b.source ≡ node → is_node a.source node ≡ true
leads node a b h s = ap (λ (n : Node). is_node n node) (ap (λ (l : Arrow). l.source) (some_arrow a b h) ∙ s) ∙ is_itself node

-- each link of the node is among its numbers
numbered : (node : Node) (k : ℕ) (links : List Arrow) (i : ℕ) (link : Arrow) → slice_get links i ≡ Some link → link.source ≡ node → Has (numbers_from node k links) (k + i)
numbered node k [] i link h s = cc
numbered node k (l ∷ links) zero link h s =
    let e : k ≡ k + 0 = omega arith in
    subst (λ n. Has (numbers_from node k (l ∷ links)) n) e (is_first (is_node l.source node) k (numbers_from node (k + 1) links) (leads node l link h s))
numbered node k (l ∷ links) (suc i) link h s =
    let e : (k + 1) + i ≡ k + suc i = omega arith in
    behind_some (if is_node l.source node then k ∷ [] else []) (numbers_from node (k + 1) links) (k + suc i) (subst (λ n. Has (numbers_from node (k + 1) links) n) e (numbered node (k + 1) links i link h s))

both_numbered : (node : Node) (k : ℕ) (links : List Arrow) (i j : ℕ) (a b : Arrow) → slice_get links i ≡ Some a → a.source ≡ node → slice_get links j ≡ Some b → b.source ≡ node → i < j → HasBoth (numbers_from node k links) (k + i) (k + j)
both_numbered node k [] i j a b h s g t lt = cc
both_numbered node k (l ∷ links) i zero a b h s g t lt = absurd (omega (arith, lt))
both_numbered node k (l ∷ links) zero (suc j) a b h s g t lt =
    let e : k ≡ k + 0 = omega arith in
    let f : (k + 1) + j ≡ k + suc j = omega arith in
    subst (λ n. HasBoth (numbers_from node k (l ∷ links)) n (k + suc j)) e
    (first_of_both (is_node l.source node) k (k + suc j) (numbers_from node (k + 1) links) (leads node l a h s)
    (subst (λ n. Has (numbers_from node (k + 1) links) n) f (numbered node (k + 1) links j b g t)))
both_numbered node k (l ∷ links) (suc i) (suc j) a b h s g t lt =
    let e : (k + 1) + i ≡ k + suc i = omega arith in
    let f : (k + 1) + j ≡ k + suc j = omega arith in
    both_behind_some (if is_node l.source node then k ∷ [] else []) (numbers_from node (k + 1) links) (k + suc i) (k + suc j)
    (subst (λ n. HasBoth (numbers_from node (k + 1) links) n (k + suc j)) e (subst (λ n. HasBoth (numbers_from node (k + 1) links) ((k + 1) + i) n) f (both_numbered node (k + 1) links i j a b h s g t (omega (arith, lt)))))

module _ (p : List ℕ → Bool) where
  one_passes : (is : List ℕ) (i : ℕ) → list_all p (ones_and_pairs is) ≡ true → Has is i → p (i ∷ []) ≡ true
  one_passes [] i h has = absurd has
  one_passes (k ∷ ks) i h (inl e) = subst (λ n. p (n ∷ []) ≡ true) e (left_of (p (k ∷ [])) _ h)
  one_passes (k ∷ ks) i h (inr has) = one_passes ks i (back_of_both p (map (λ j. k ∷ j ∷ []) ks) (ones_and_pairs ks) (right_of (p (k ∷ [])) _ h)) has

  later_passes : (k : ℕ) (ks : List ℕ) (j : ℕ) → list_all p (map (λ j. k ∷ j ∷ []) ks) ≡ true → Has ks j → p (k ∷ j ∷ []) ≡ true
  later_passes k [] j h has = absurd has
  later_passes k (x ∷ ks) j h (inl e) = subst (λ n. p (k ∷ n ∷ []) ≡ true) e (left_of (p (k ∷ x ∷ [])) _ h)
  later_passes k (x ∷ ks) j h (inr has) = later_passes k ks j (right_of (p (k ∷ x ∷ [])) _ h) has

  both_pass : (is : List ℕ) (i j : ℕ) → list_all p (ones_and_pairs is) ≡ true → HasBoth is i j → p (i ∷ j ∷ []) ≡ true
  both_pass [] i j h has = absurd has
  both_pass (k ∷ ks) i j h (inl e) =
      subst (λ n. p (n ∷ j ∷ []) ≡ true) e.0 (later_passes k ks j (front_of_both p (map (λ j. k ∷ j ∷ []) ks) (ones_and_pairs ks) (right_of (p (k ∷ [])) _ h)) e.1)
  both_pass (k ∷ ks) i j h (inr has) = both_pass ks i j (back_of_both p (map (λ j. k ∷ j ∷ []) ks) (ones_and_pairs ks) (right_of (p (k ∷ [])) _ h)) has

  -- each choice of links of the node is among them
  out_passes : (m : Graph) (node : Node) (out : List ℕ) → list_all p (outs m node) ≡ true → IsOut m node out → p out ≡ true
  out_passes m node [] h is = left_of (p []) _ h
  out_passes m node (i ∷ []) h is =
      let e : 0 + i ≡ i = omega arith in
      one_passes (numbers_from node 0 m.links) i (right_of (p []) _ h) (subst (λ n. Has (numbers_from node 0 m.links) n) e (numbered node 0 m.links i is.0 is.1 is.2))
  out_passes m node (i ∷ j ∷ []) h is =
      let e : 0 + i ≡ i = omega arith in
      let f : 0 + j ≡ j = omega arith in
      let a = is.0 in
      let b = is.1 in
      both_pass (numbers_from node 0 m.links) i j (right_of (p []) _ h)
      (subst (λ n. HasBoth (numbers_from node 0 m.links) n j) e (subst (λ n. HasBoth (numbers_from node 0 m.links) (0 + i) n) f (both_numbered node 0 m.links i j a.0 b.0 a.1 a.2 b.1 b.2 is.2)))
  out_passes m node (i ∷ j ∷ k ∷ out) h is = absurd is

-- ---- nodes

field_passes : (p : Node → Bool) (k : ℕ) (fields : List Field) (f : ℕ) → list_all p (fields_from k fields) ≡ true → f < length fields → p (At (k + f)) ≡ true
field_passes p k [] f h lt = absurd (omega (arith, lt))
field_passes p k (x ∷ fields) zero h lt = let e : k ≡ k + 0 = omega arith in subst (λ n. p (At n) ≡ true) e (left_of (p (At k)) _ h)
field_passes p k (x ∷ fields) (suc f) h lt =
    let e : (k + 1) + f ≡ k + suc f = omega arith in
    subst (λ n. p (At n) ≡ true) e (field_passes p (k + 1) fields f (right_of (p (At k)) _ h) (omega (arith, lt)))

node_passes : (p : Node → Bool) (m : Graph) (node : Node) → list_all p (every_node m) ≡ true → IsNode m node → p node ≡ true
node_passes p m Start h ok = left_of (p Start) _ h
node_passes p m (At f) h ok =
    let e : 0 + f ≡ f = omega arith in
    subst (λ n. p (At n) ≡ true) e (field_passes p 0 m.fields f (front_of_both p (fields_from 0 m.fields) (Null ∷ []) (right_of (p Start) _ h)) ok)
node_passes p m Null h ok = left_of (p Null) true (back_of_both p (fields_from 0 m.fields) (Null ∷ []) (right_of (p Start) _ h))

-- what the lists tell of is so
pub limit_kept : (domains : List Domain) (m : Graph) → IsElaborated domains m → keeps_limit domains m ≡ true → KeepsLimit domains m
limit_kept domains m made h node path out is_path is_out =
    let paths = onward m.links (length m.links) node Start in
    let at_node = node_passes (keeps_limit_at domains m) m node h (ends_at_node domains m made path Start node tt is_path) in
    let all = each_passes (λ q. list_all (λ o. not (passes_limit domains m q o)) (outs m node)) paths at_node in
    let here = holds_of (λ q. list_all (λ o. not (passes_limit domains m q o)) (outs m node) ≡ true) paths path all ((listed m node made.acyclic).all path is_path) in
    denied (passes_limit domains m path out) (out_passes (λ o. not (passes_limit domains m path o)) m node out here is_out)
