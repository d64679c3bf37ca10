-- The link of a node that has a number is the one that is found by it.
use Rattle.std.proofs.Common.{◌≡◌, refl, sym, ap, ◌∙◌, ℕ, zero, suc, ◌+◌, ◌-◌, arith, List, [], ◌∷◌, Bool, true, false, take, Option, Some, cond}
use Rattle.std.specs.Prelude.{slice_get, filter, count_by}
use Rattle.std.specs.List.{fold}
use Rattle.std.proofs.lemmas.Bool.Decides.{Decides-eqb}
use Rattle.rx_graph.specs.declared.message.Node.{Node}
use Rattle.rx_graph.specs.declared.message.Node.TheVariants.{Start, At, Null}
use Rattle.rx_graph.specs.Graph.{Arrow, Graph}
use Rattle.rx_graph.specs.Checks.{is_node, IsNumbered}
use Rattle.rx_graph.proofs.Unique.{some_same}
use Rattle.rx_layout.specs.QueryOf.{link_numbered}

same_node : (node : Node) → is_node node node ≡ true
same_node Start = refl
same_node (At f) = (Decides-eqb f f).1 refl
same_node Null = refl

module _ (node : Node) where
  abbrev pub leaves : Arrow → Bool
  leaves l = is_node node l.source

  abbrev pub counted : ℕ → List Arrow → ℕ
  counted k ls = fold (λ a x. a + cond (leaves x) 1 0) k ls

  pub counted_from : (k : ℕ) (ls : List Arrow) → counted k ls ≡ k + counted 0 ls
  counted_from k [] = omega arith
  counted_from k (l ∷ ls) =
      let a = counted_from (k + cond (leaves l) 1 0) ls in
      let b = counted_from (0 + cond (leaves l) 1 0) ls in
      omega (arith, a, b)

  first_is : (b : Bool) (l : Arrow) (more : List Arrow) → b ≡ true → slice_get (cond b (l ∷ more) more) 0 ≡ Some l
  first_is true l more h = refl
  first_is false l more h = absurd (cc)

  found_if : (b : Bool) (l : Arrow) (more : List Arrow) (k j : ℕ) (o : Option Arrow) → slice_get more k ≡ o → j ≡ cond b 1 0 + k → slice_get (cond b (l ∷ more) more) j ≡ o
  found_if true l more k j o h e = ap (λ (n : ℕ). slice_get (l ∷ more) n) (e ∙ one_more k) ∙ h
    where
      one_more : (n : ℕ) → 1 + n ≡ suc n
      one_more n = omega arith
  found_if false l more k j o h e = ap (λ (n : ℕ). slice_get more n) (e ∙ no_more k) ∙ h
    where
      no_more : (n : ℕ) → 0 + n ≡ n
      no_more n = omega arith

  found : (links : List Arrow) (i : ℕ) (link : Arrow) → slice_get links i ≡ Some link → leaves link ≡ true → slice_get (filter leaves links) (count_by leaves (take i links)) ≡ Some link
  found [] i link h s = absurd (cc)
  found (l ∷ ls) zero link h s =
      let e = some_same l link h in first_is (leaves l) l (filter leaves ls) (ap (λ (x : Arrow). leaves x) e ∙ s) ∙ ap (λ (x : Arrow). Some x) e
  found (l ∷ ls) (suc i) link h s =
      found_if (leaves l) l (filter leaves ls) (counted 0 (take i ls)) (counted (0 + cond (leaves l) 1 0) (take i ls)) (Some link) (found ls i link h s)
      (counted_from (0 + cond (leaves l) 1 0) (take i ls) ∙ (omega arith))

-- the link with a number is found by it
pub numbered_found : (m : Graph) (node : Node) (n i : ℕ) (link : Arrow) → IsNumbered m node n i link → link_numbered m node n ≡ Some link
numbered_found m node n i link h =
    let k = count_by (leaves node) (take i m.links) in
    ap (λ (j : ℕ). slice_get (filter (leaves node) m.links) j) (one_less n k h.number)
    ∙ found node m.links i link h.is (ap (λ (x : Node). is_node node x) h.source ∙ same_node node)
  where
    one_less : (n k : ℕ) → n ≡ k + 1 → n - 1 ≡ k
    one_less n k e = omega (arith, e)

-- so a node has one link with that number
pub one_numbered : (m : Graph) (node : Node) (n i j : ℕ) (a b : Arrow) → IsNumbered m node n i a → IsNumbered m node n j b → a ≡ b
one_numbered m node n i j a b p q = some_same a b (sym (numbered_found m node n i a p) ∙ numbered_found m node n j b q)
