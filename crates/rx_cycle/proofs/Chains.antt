-- The chains of the links so far, link by link.
use Rattle.std.proofs.Common.{◌≡◌, ◌≢◌, ◌∙◌, ℕ, ◌+◌, ◌<◌, List, [], ◌∷◌, ◌++◌, length, get_or, set, replicate, sym, ap, subst, ⊎_elim, arith}
use Rattle.std.proofs.lemmas.List.{length-set, length-replicate, get_or-replicate, get_or-set_same, get_or-set_other, get_or_append_left, get_or_push, length_push}
use Rattle.std.proofs.lemmas.Option.{get_or_from_slice_get, slice_get_within}
use Rattle.std.proofs.lemmas.Bool.{cases_eq}
use Rattle.rx_cycle.specs.declared.ends.Ends.{Ends}
use Rattle.rx_cycle.specs.Graph.{IsLink}
use Rattle.rx_cycle.specs.Ways.{IsLastFrom, ListsLinks}

-- the chains of the first i links
pub record Listed (links : List Ends) (n i : ℕ) (last previous : List ℕ) : Type 0 where
  pub nodes : length last ≡ n
  pub some : length previous ≡ i
  pub from_node : (v : ℕ) → v < n → IsLastFrom links v i (get_or last v 0)
  pub from_link : (k : ℕ) (link : Ends) → k < i → IsLink links k link → IsLastFrom links link.source k (get_or previous k 0)

-- before the first link there is none
none_yet : (links : List Ends) (v x : ℕ) → x ≡ 0 → IsLastFrom links v 0 x
none_yet links v x e = record {
  within = omega arith;
  here = λ k link h l. absurd (omega arith);
  none = λ k link h b l. absurd (omega arith);
}

pub start : (links : List Ends) (n : ℕ) (last previous : List ℕ) → last ≡ replicate n 0 → previous ≡ [] → Listed links n 0 last previous
start links n last previous e f = record {
  nodes = ap length e ∙ length-replicate n 0;
  some = ap length f;
  from_node = λ v h. none_yet links v (get_or last v 0) (ap (λ (xs : List ℕ). get_or xs v 0) e ∙ get_or-replicate n v 0 0 h);
  from_link = λ k link h l. absurd (omega arith);
}

-- two readings of one link
one_link : (links : List Ends) (k : ℕ) (a b : Ends) → IsLink links k a → IsLink links k b → a.source ≡ b.source
one_link links k a b h g = ap (λ (x : Ends). x.source) (sym (get_or_from_slice_get links k a a h) ∙ get_or_from_slice_get links k b a g)

-- a link of the node itself is now its last
link_of_node : (links : List Ends) (v i x : ℕ) (this : Ends) → IsLink links i this → this.source ≡ v → x ≡ i + 1 → IsLastFrom links v (i + 1) x
link_of_node links v i x this l s e = record {
  within = omega arith;
  here = λ k link h g. let q : k ≡ i = omega arith in one_link links i link this (subst (λ (j : ℕ). IsLink links j link) q g) l ∙ s;
  none = λ k link h b g. absurd (omega arith);
}

-- a link of another node leaves its last
link_of_other : (links : List Ends) (v i x : ℕ) (this : Ends) → IsLink links i this → this.source ≢ v → IsLastFrom links v i x → IsLastFrom links v (i + 1) x
link_of_other links v i x this l s old = record {
  within = let h = old.within in omega arith;
  here = old.here;
  none = λ k link h b g. ⊎_elim
      (λ (q : k ≡ i) (t : link.source ≡ v). s (one_link links i this link l (subst (λ (j : ℕ). IsLink links j link) q g) ∙ t))
      (λ (q : k ≡ i → ⊥). old.none k link h (omega arith) g)
      (cases_eq k i);
}

pub more : (links : List Ends) (n i : ℕ) (last previous pushed : List ℕ) (this : Ends) (x : ℕ) → Listed links n i last previous → IsLink links i this → this.source < n → x ≡ get_or last this.source 0 → pushed ≡ previous ++ x ∷ []
    → Listed links n (i + 1) (set last this.source (i + 1)) pushed
more links n i last previous pushed this x old l b e p = record {
  nodes = length-set last this.source (i + 1) ∙ old.nodes;
  some = ap length p ∙ length_push previous x ∙ ap (λ (k : ℕ). k + 1) old.some;
  from_node = λ v h. let count = old.nodes in ⊎_elim
      (λ (q : v ≡ this.source). link_of_node links v i _ this l (sym q) (ap (λ (w : ℕ). get_or (set last this.source (i + 1)) w 0) q ∙ get_or-set_same last this.source (i + 1) 0 (omega arith)))
      (λ (q : v ≡ this.source → ⊥). link_of_other links v i _ this l (λ t. q (sym t)) (subst (λ (y : ℕ). IsLastFrom links v i y) (sym (get_or-set_other last this.source v (i + 1) 0 q)) (old.from_node v h)))
      (cases_eq v this.source);
  from_link = λ k link h g. let count = old.some in ⊎_elim
      (λ (q : k ≡ i).
      let same = one_link links i this link l (subst (λ (j : ℕ). IsLink links j link) q g) in
      let at : get_or pushed k 0 ≡ get_or last this.source 0 = ap (λ (xs : List ℕ). get_or xs k 0) p ∙ get_or_push previous x 0 k (omega arith) ∙ e in
      subst (λ (y : ℕ). IsLastFrom links link.source k y) (sym at) (subst (λ (y : ℕ). IsLastFrom links link.source y (get_or last this.source 0)) (sym q) (subst (λ (y : ℕ). IsLastFrom links y i (get_or last this.source 0)) same (old.from_node this.source b))))
      (λ (q : k ≡ i → ⊥).
      let at : get_or pushed k 0 ≡ get_or previous k 0 = ap (λ (xs : List ℕ). get_or xs k 0) p ∙ get_or_append_left previous (x ∷ []) 0 k (omega arith) in
      subst (λ (y : ℕ). IsLastFrom links link.source k y) (sym at) (old.from_link k link (omega arith) g))
      (cases_eq k i);
}

pub all : (links : List Ends) (n i : ℕ) (last previous : List ℕ) → Listed links n i last previous → i ≡ length links → ListsLinks links n last previous
all links n i last previous old e = record {
  nodes = old.nodes;
  all = old.some ∙ e;
  from_node = λ v h. subst (λ (j : ℕ). IsLastFrom links v j (get_or last v 0)) e (old.from_node v h);
  from_link = λ k link g. old.from_link k link (subst (λ (j : ℕ). k < j) (sym e) (slice_get_within links k link g)) g;
}
