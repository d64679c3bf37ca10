-- A message that keeps the limit passes the test of all paths and links: each list of links that is tried is one of the node's.
use Rattle.std.proofs.Common.{◌≡◌, refl, ap, subst, ℕ, suc, ◌+◌, ◌<◌, ◌≤◌, arith, List, [], ◌∷◌, ◌++◌, map, length, Bool, true, false, not, Some, slice_get}
use Rattle.std.specs.Prelude.{if◌then◌else◌}
use Rattle.std.specs.List.{AllByRecursion, list_all}
use Rattle.std.proofs.lemmas.Bool.Decides.{Decides-eqb}
use Rattle.rx_types.specs.Domain.{Domain}
use Rattle.rx_graph.specs.declared.message.Node.{Node}
use Rattle.rx_graph.specs.declared.message.Node.TheVariants.{Start, At, Null}
use Rattle.rx_graph.specs.Graph.{Arrow, Graph}
use Rattle.rx_graph.specs.Checks.{is_node}
use Rattle.rx_graph.specs.Cycles.{IsLink, IsPath}
use Rattle.rx_graph.specs.Elaborated.{IsElaborated}
use Rattle.rx_graph.specs.Onward.{onward}
use Rattle.rx_graph.proofs.Listed.{listed}
use Rattle.rx_forms.specs.Steps.{passes_limit}
use Rattle.rx_forms.specs.PathLimit.{LeadsFrom, IsOut, KeepsLimit, numbers_from, ones_and_pairs, outs, keeps_limit_at, every_node, keeps_limit}
use Rattle.rx_forms.proofs.Tests.{and_true}

-- ---- lists

all_pass : {X : Type 0} (P : X → Type 0) (p : X → Bool) → ((x : X) → P x → p x ≡ true) → (xs : List X) → AllByRecursion P xs → list_all p xs ≡ true
all_pass P p each [] h = refl
all_pass P p each (x ∷ xs) h = and_true (each x h.0) (all_pass P p each xs h.1)

each_passes : {X : Type 0} (p : X → Bool) → ((x : X) → p x ≡ true) → (xs : List X) → list_all p xs ≡ true
each_passes p each [] = refl
each_passes p each (x ∷ xs) = and_true (each x) (each_passes p each xs)

all_of_both : {X : Type 0} (P : X → Type 0) (xs ys : List X) → AllByRecursion P xs → AllByRecursion P ys → AllByRecursion P (xs ++ ys)
all_of_both P [] ys h k = k
all_of_both P (x ∷ xs) ys h k = (h.0, all_of_both P xs ys h.1 k)

-- ---- links of a node

same_node : (a b : Node) → is_node a b ≡ true → a ≡ b
same_node Start Start h = refl
same_node Start (At f) h = cc
same_node Start Null h = cc
same_node (At f) Start h = cc
same_node (At f) (At g) h = ap At ((Decides-eqb f g).0 h)
same_node (At f) Null h = cc
same_node Null Start h = cc
same_node Null (At f) h = cc
same_node Null Null h = refl

module _ (m : Graph) (node : Node) where
  -- links of the node, each number above the one before, from n on
  abbrev Ascend : ℕ → List ℕ → Type 0
  Ascend n [] = Unit {0}
  Ascend n (i ∷ is) = (n ≤ i) × LeadsFrom m node i × Ascend (i + 1) is

  lower : (n k : ℕ) (is : List ℕ) → n ≤ k → Ascend k is → Ascend n is
  lower n k [] le h = tt
  lower n k (i ∷ is) le h = (omega (arith, le, h.0), h.1, h.2)

  ascend_if : (b : Bool) (k : ℕ) (link : Arrow) (is : List ℕ) → is_node link.source node ≡ b → IsLink m k link → Ascend (k + 1) is → Ascend k ((if b then k ∷ [] else []) ++ is)
  ascend_if true k link is e h more = (omega arith, (link, h, same_node link.source node e), more)
  ascend_if false k link is e h more = lower k (k + 1) is (omega arith) more

  numbers_ascend : (k : ℕ) (links : List Arrow) → ((j : ℕ) (link : Arrow) → slice_get links j ≡ Some link → IsLink m (k + j) link) → Ascend k (numbers_from node k links)
  numbers_ascend k [] h = tt
  numbers_ascend k (link ∷ links) h =
      ascend_if (is_node link.source node) k link (numbers_from node (k + 1) links) refl (subst (λ n. IsLink m n link) (omega arith) (h 0 link refl))
      (numbers_ascend (k + 1) links (λ j l g. subst (λ n. IsLink m n l) (moved k j) (h (suc j) l g)))
    where
      moved : (k j : ℕ) → k + suc j ≡ (k + 1) + j
      moved k j = omega arith

  pairs_out : (i n : ℕ) (is : List ℕ) → LeadsFrom m node i → i < n → Ascend n is → AllByRecursion (IsOut m node) (map (λ j. i ∷ j ∷ []) is)
  pairs_out i n [] h lt up = tt
  pairs_out i n (j ∷ is) h lt up = ((h, up.1, omega (arith, lt, up.0)), pairs_out i (j + 1) is h (omega (arith, lt, up.0)) up.2)

  choices_out : (n : ℕ) (is : List ℕ) → Ascend n is → AllByRecursion (IsOut m node) (ones_and_pairs is)
  choices_out n [] up = tt
  choices_out n (i ∷ is) up = (up.1, all_of_both (IsOut m node) (map (λ j. i ∷ j ∷ []) is) (ones_and_pairs is) (pairs_out i (i + 1) is up.1 (omega arith) up.2) (choices_out (i + 1) is up.2))

  -- each list that is tried is none, one or two links of the node
  outs_are : AllByRecursion (IsOut m node) (outs m node)
  outs_are = (tt, choices_out 0 (numbers_from node 0 m.links) (numbers_ascend 0 m.links (λ j link g. subst (λ n. IsLink m n link) (omega arith) g)))

-- what keeps the limit passes the test
pub limit_told : (domains : List Domain) (m : Graph) → IsElaborated domains m → KeepsLimit domains m → keeps_limit domains m ≡ true
limit_told domains m made keeps = each_passes (keeps_limit_at domains m) at_node (every_node m)
  where
    out_passes : (node : Node) (path : List ℕ) → IsPath m Start path node → (out : List ℕ) → IsOut m node out → not (passes_limit domains m path out) ≡ true
    out_passes node path is out choice = ap (λ (b : Bool). not b) (keeps node path out is choice)

    path_passes : (node : Node) (path : List ℕ) → IsPath m Start path node → list_all (λ out. not (passes_limit domains m path out)) (outs m node) ≡ true
    path_passes node path is = all_pass (IsOut m node) (λ out. not (passes_limit domains m path out)) (λ out choice. out_passes node path is out choice) (outs m node) (outs_are m node)

    at_node : (node : Node) → keeps_limit_at domains m node ≡ true
    at_node node =
        all_pass (λ path. IsPath m Start path node) (λ path. list_all (λ out. not (passes_limit domains m path out)) (outs m node)) (λ path is. path_passes node path is)
        (onward m.links (length m.links) node Start) (listed m node made.acyclic).alone
