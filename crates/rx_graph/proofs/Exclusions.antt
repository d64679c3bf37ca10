-- The checks of pairs of links say that no two links of a node are taken together.
use Rattle.std.proofs.Common.{◌≡◌, ℕ, zero, suc, ◌+◌, ◌<◌, ◌≤◌, Bool, true, cond, List, [], ◌∷◌, take, Some, None, refl, ap, ◌∙◌, subst, inl, inr, arith}
use Rattle.std.specs.Prelude.{slice_get, count_by}
use Rattle.std.proofs.lemmas.Bool.{cases_lt}
use Rattle.std.proofs.lemmas.Bool.Decides.{Decides-eqb}
use Rattle.std.proofs.lemmas.Option.{get_or_from_slice_get, slice_get_within}
use Rattle.std.proofs.lemmas.List.Sums.{count_by_more_yes, sum_by-take-le}
use Rattle.std.proofs.Common.{get_or}
use Rattle.rx_types.specs.Domain.{Domain}
use Rattle.rx_types.specs.Environment.{Placed, in_message}
use Rattle.rx_graph.specs.declared.message.Node.{Node}
use Rattle.rx_graph.specs.declared.message.Node.TheVariants.{Start, At, Null}
use Rattle.rx_graph.specs.Graph.{Arrow, Graph}
use Rattle.rx_graph.specs.Paths.{IsTrue, IsPartial, Exclusive}
use Rattle.rx_graph.specs.Checks.{is_node, number_of, IsNumbered, AllHold}
use Rattle.rx_graph.specs.Cycles.{IsLink}

none_some : {X : Type 0} (x : X) → None ≡ Some x → ⊥
none_some x h = cc

some_same : {X : Type 0} (x y : X) → Some x ≡ Some y → x ≡ y
some_same x y h = cc

pub is_itself : (node : Node) → is_node node node ≡ true
is_itself Start = refl
is_itself (At f) = (Decides-eqb f f).1 refl
is_itself Null = refl

take_take : {X : Type 0} (xs : List X) (n k : ℕ) → n ≤ k → take n (take k xs) ≡ take n xs
take_take xs zero k le = refl
take_take [] (suc n) zero le = refl
take_take [] (suc n) (suc k) le = refl
take_take (x ∷ xs) (suc n) zero le = absurd (omega (arith, le))
take_take (x ∷ xs) (suc n) (suc k) le = ap (λ l. x ∷ l) (take_take xs n k (omega (arith, le)))

-- a link that passes the test has a smaller number than those behind it
fewer : {X : Type 0} (p : X → Bool) (xs : List X) (i j : ℕ) (x : X) → i < j → slice_get xs i ≡ Some x → p x ≡ true → count_by p (take i xs) < count_by p (take j xs)
fewer p xs i j x lt h t =
    let at : get_or xs i x ≡ x = get_or_from_slice_get xs i x x h in
    let here = count_by_more_yes p xs i x (slice_get_within xs i x h) (ap p at ∙ t) in
    let le = sum_by-take-le (λ y. cond (p y) 1 0) (take j xs) (i + 1) in
    let same : take (i + 1) (take j xs) ≡ take (i + 1) xs = take_take xs (i + 1) j (omega arith) in
    let le' : count_by p (take (i + 1) xs) ≤ count_by p (take j xs) = subst (λ l. count_by p l ≤ count_by p (take j xs)) same le in
    omega (arith, here, le')

module _ (domains : List Domain) (m : Graph) (holds : AllHold domains m) where
  numbered : (node : Node) (i : ℕ) (a : Arrow) → IsLink m i a → a.source ≡ node → IsNumbered m node (number_of m.links node i) i a
  numbered node i a is source = record { is = is; source = source; number = refl }

  never_both : (total : ℕ) (path : List ℕ) (fields : List Placed) (end : Node) (i j : ℕ) (a b : Arrow) → i < j → IsPartial domains m total path fields end → IsLink m i a → IsLink m j b → a.source ≡ end → b.source ≡ end → IsTrue a (in_message total fields) → IsTrue b (in_message total fields) → ⊥
  never_both total path fields end i j a b lt part is_a is_b source_a source_b true_a true_b =
      let tested : is_node end a.source ≡ true = ap (λ n. is_node end n) source_a ∙ is_itself end in
      let less = fewer (λ l. is_node end l.source) m.links i j a lt is_a tested in
      holds.exclusive end (number_of m.links end i) (number_of m.links end j) (omega (arith, less)) total path fields i a part (numbered end i a is_a source_a) true_a j b (numbered end j b is_b source_b) true_b

  pub exclusive_from_checks : Exclusive domains m
  exclusive_from_checks total path fields end i j a b part is_a is_b source_a source_b true_a true_b =
      elim (cases_lt i j) [
        | inl lt ↦ absurd (never_both total path fields end i j a b lt part is_a is_b source_a source_b true_a true_b)
        | inr le ↦ elim (cases_lt j i) [
          | inl lt ↦ absurd (never_both total path fields end j i b a lt part is_b is_a source_b source_a true_b true_a)
          | inr le' ↦ omega (arith, le, le')
        ]
      ]
