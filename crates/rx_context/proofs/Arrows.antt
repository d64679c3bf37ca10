-- The arrow of a link in the code's list.
use Rattle.std.proofs.Common.{◌≡◌, ℕ, zero, suc, ◌+◌, ◌<◌, List, [], ◌∷◌, length, get_or, Some, None, refl, sym, ap, ◌∙◌, subst, inl, inr, arith}
use Rattle.std.specs.Prelude.{slice_get}
use Rattle.std.proofs.lemmas.Bool.{cases_lt}
use Rattle.rx_graph.specs.declared.message.Link.{Link}
use Rattle.rx_graph.specs.declared.message.Node.{Node}
use Rattle.rx_graph.specs.Graph.{Arrow, arrow_of, arrows}

at_index : (links : List Link) (i : ℕ) (d : Link) → i < length links → slice_get (arrows links) i ≡ Some (arrow_of (get_or links i d))
at_index [] i d h = absurd (omega (arith, h))
at_index (l ∷ ls) zero d h = refl
at_index (l ∷ ls) (suc i) d h = at_index ls i d (omega (arith, h))

pub link_at : (links : List Link) (i : ℕ) (link : Link) → link ≡ get_or links i link → i < length links → slice_get (arrows links) i ≡ Some (arrow_of link)
link_at links i link e h = at_index links i link h ∙ ap (λ l. Some (arrow_of l)) (sym e)

-- the link of a turn, where the code has the links as a slice
pub link_in : (items links : List Link) (i : ℕ) (link : Link) → links ≡ items → i < length links → link ≡ get_or links i link → slice_get (arrows items) i ≡ Some (arrow_of link)
link_in items links i link same lt is =
    subst (λ l. slice_get (arrows l) i ≡ Some (arrow_of link)) same (link_at links i link is lt)

none_some : (a : Arrow) → None ≡ Some a → ⊥
none_some a h = cc

some_same : (a b : Arrow) → Some a ≡ Some b → a ≡ b
some_same a b h = cc

found : (links : List Link) (i : ℕ) (d : Link) (a : Arrow) → slice_get (arrows links) i ≡ Some a → arrow_of (get_or links i d) ≡ a
found [] i d a h = absurd (none_some a h)
found (l ∷ ls) zero d a h = some_same (arrow_of l) a h
found (l ∷ ls) (suc i) d a h = found ls i d a h

pub same_arrow : (links : List Link) (i : ℕ) (link : Link) (a : Arrow) → link ≡ get_or links i link → slice_get (arrows links) i ≡ Some a → arrow_of link ≡ a
same_arrow links i link a e h = ap arrow_of e ∙ found links i link a h

-- an arrow is one of a link in the list
pub arrow_within : (links : List Link) (i : ℕ) (a : Arrow) → slice_get (arrows links) i ≡ Some a → i < length links
arrow_within [] i a h = absurd (none_some a h)
arrow_within (l ∷ ls) zero a h = omega arith
arrow_within (l ∷ ls) (suc i) a h = omega (arith, arrow_within ls i a h)

-- no link so far leads from the node, nor does this one
pub none_more : (links : List Link) (node : Node) (i : ℕ) (link : Link) → link ≡ get_or links i link → (link.source ≡ node → ⊥) → ((k : ℕ) (a : Arrow) → k < i → slice_get (arrows links) k ≡ Some a → a.source ≡ node → ⊥) → (k : ℕ) (a : Arrow) → k < i + 1 → slice_get (arrows links) k ≡ Some a → a.source ≡ node → ⊥
none_more links node i link is apart none k a lt at source =
    elim (cases_lt k i) [
      | inl l ↦ none k a l at source
      | inr l ↦ (let e : k ≡ i = omega (arith, lt, l) in
          apart (ap (λ (x : Arrow). x.source) (same_arrow links i link a is (subst (λ n. slice_get (arrows links) n ≡ Some a) e at)) ∙ source))
    ]

-- the last link of the node among two lists of one length
pub one_more : (links : List Arrow) (n : ℕ) (here : Arrow) → slice_get links n ≡ Some here → ((i : ℕ) (a : Arrow) → i < n → slice_get links i ≡ Some a → a.source ≡ here.source → ⊥) → ((i j : ℕ) (a b : Arrow) → i < n → j < n → slice_get links i ≡ Some a → slice_get links j ≡ Some b → a.source ≡ b.source → i ≡ j) → (i j : ℕ) (a b : Arrow) → i < n + 1 → j < n + 1 → slice_get links i ≡ Some a → slice_get links j ≡ Some b → a.source ≡ b.source → i ≡ j
one_more links n here is none one i j a b lt lt' at at' source =
    elim (cases_lt i n) [
      | inl l ↦ elim (cases_lt j n) [
        | inl k ↦ one i j a b l k at at' source
        | inr k ↦ (let e : j ≡ n = omega (arith, lt', k) in absurd (none i a l at (source ∙ ap (λ (x : Arrow). x.source) (some_same b here (sym at' ∙ ap (λ m. slice_get links m) e ∙ is)))))
      ]
      | inr l ↦ elim (cases_lt j n) [
        | inl k ↦ (let e : i ≡ n = omega (arith, lt, l) in absurd (none j b k at' (sym source ∙ ap (λ (x : Arrow). x.source) (some_same a here (sym at ∙ ap (λ m. slice_get links m) e ∙ is)))))
        | inr k ↦ omega (arith, lt, l, lt', k)
      ]
    ]
