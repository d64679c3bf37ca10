-- The paths to a node stand in one list: that all of them are in it, alone and in order, determines it.
use Rattle.std.proofs.Common.{◌≡◌, ℕ, zero, suc, ◌<◌, List, [], ◌∷◌, length, refl, sym, ap, subst, ◌∙◌, ◌⊎◌, inl, inr, arith}
use Rattle.std.specs.Prelude.{Contains, slice_index_or}
use Rattle.std.specs.List.{AllByRecursion}
use Rattle.std.proofs.lemmas.List.Elements.{Contains-append_right, Contains-append_cases}
use Rattle.rx_types.specs.Domain.{EachPair}
use Rattle.rx_graph.specs.declared.message.Node.{Node}
use Rattle.rx_graph.specs.declared.message.Node.TheVariants.{Start}
use Rattle.rx_graph.specs.Graph.{Graph}
use Rattle.rx_graph.specs.Cycles.{IsPath, Precedes, ArePathsTo}

not_itself : (p : List ℕ) → Precedes p p → ⊥
not_itself [] h = h
not_itself (i ∷ p) (inl h) = absurd (omega (arith, h))
not_itself (i ∷ p) (inr h) = not_itself p h.1

not_both : (p q : List ℕ) → Precedes p q → Precedes q p → ⊥
not_both [] q h k = h
not_both (i ∷ p) [] h k = h
not_both (i ∷ p) (j ∷ q) (inl h) (inl k) = absurd (omega (arith, h, k))
not_both (i ∷ p) (j ∷ q) (inl h) (inr k) = let e = k.0 in absurd (omega (arith, h, e))
not_both (i ∷ p) (j ∷ q) (inr h) (inl k) = let e = h.0 in absurd (omega (arith, e, k))
not_both (i ∷ p) (j ∷ q) (inr h) (inr k) = not_both p q h.1 k.1

none_in : (p : List ℕ) → Contains [] p → ⊥
none_in p h = absurd (omega (arith, h.1))

at_place : (P : List ℕ → Type 0) (xs : List (List ℕ)) (p : List ℕ) (k : ℕ) → k < length xs → slice_index_or xs k p ≡ p → AllByRecursion P xs → P p
at_place P [] p k h e all = absurd (omega (arith, h))
at_place P (x ∷ xs) p zero h e all = subst P e all.0
at_place P (x ∷ xs) p (suc k) h e all = at_place P xs p k (omega (arith, h)) e all.1

holds_of : (P : List ℕ → Type 0) (xs : List (List ℕ)) (p : List ℕ) → AllByRecursion P xs → Contains xs p → P p
holds_of P xs p all h = at_place P xs p h.0 h.1 h.2 all

only : (x p : List ℕ) (k : ℕ) → k < 1 → slice_index_or (x ∷ []) k p ≡ p → x ≡ p
only x p zero h e = e
only x p (suc k) h e = absurd (omega (arith, h))

first_or_later : (x p : List ℕ) (xs : List (List ℕ)) → Contains (x ∷ xs) p → (x ≡ p) ⊎ Contains xs p
first_or_later x p xs h =
    elim (Contains-append_cases (x ∷ []) xs p h) [
      | inl c ↦ inl (only x p c.0 c.1 c.2)
      | inr c ↦ inr c
    ]

first_in : (x : List ℕ) (xs : List (List ℕ)) → Contains (x ∷ xs) x
first_in x xs = (0, omega arith, refl)

same_first : (x y : List ℕ) (xs ys : List (List ℕ)) → EachPair Precedes (x ∷ xs) → EachPair Precedes (y ∷ ys) → Contains (y ∷ ys) x → Contains (x ∷ xs) y → x ≡ y
same_first x y xs ys h k there here =
    elim (first_or_later y x ys there) [
      | inl e ↦ sym e
      | inr c ↦ elim (first_or_later x y xs here) [
        | inl e ↦ e
        | inr d ↦ absurd (not_both y x (holds_of (λ p. Precedes y p) ys x k.0 c) (holds_of (λ p. Precedes x p) xs y h.0 d))
      ]
    ]

-- what stands behind x is not x, so it stands behind y
behind : (x y p : List ℕ) (xs ys : List (List ℕ)) → x ≡ y → EachPair Precedes (x ∷ xs) → Contains xs p → Contains (y ∷ ys) p → Contains ys p
behind x y p xs ys same h c d =
    elim (first_or_later y p ys d) [
      | inl e ↦ absurd (not_itself x (subst (λ q. Precedes x q) (sym (same ∙ e)) (holds_of (λ q. Precedes x q) xs p h.0 c)))
      | inr later ↦ later
    ]

same_list : (xs ys : List (List ℕ)) → EachPair Precedes xs → EachPair Precedes ys → ((p : List ℕ) → Contains xs p → Contains ys p) → ((p : List ℕ) → Contains ys p → Contains xs p) → xs ≡ ys
same_list [] [] h k there here = refl
same_list [] (y ∷ ys) h k there here = absurd (none_in y (here y (first_in y ys)))
same_list (x ∷ xs) [] h k there here = absurd (none_in x (there x (first_in x xs)))
same_list (x ∷ xs) (y ∷ ys) h k there here =
    let e = same_first x y xs ys h k (there x (first_in x xs)) (here y (first_in y ys)) in
    let rest = same_list xs ys h.1 k.1 (λ p c. behind x y p xs ys e h c (there p (Contains-append_right (x ∷ []) xs p c))) (λ p c. behind y x p ys xs (sym e) k c (here p (Contains-append_right (y ∷ []) ys p c))) in
    ap (λ z. z ∷ xs) e ∙ ap (λ zs. y ∷ zs) rest

pub one_list : (m : Graph) (end : Node) (ps qs : List (List ℕ)) → ArePathsTo m end ps → ArePathsTo m end qs → ps ≡ qs
one_list m end ps qs a b =
    same_list ps qs a.ordered b.ordered (λ p c. b.all p (holds_of (λ q. IsPath m Start q end) ps p a.alone c)) (λ p c. a.all p (holds_of (λ q. IsPath m Start q end) qs p b.alone c))
