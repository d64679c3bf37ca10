-- What a search has reached, step by step.
use Rattle.std.proofs.Common.{◌≡◌, ◌∙◌, ℕ, ◌+◌, ◌-◌, ◌<◌, ◌≤◌, Bool, true, false, cond, List, [], ◌∷◌, ◌++◌, length, get_or, set, replicate, refl, sym, ap, subst, ⊎_elim, inl, inr, arith}
use Rattle.std.specs.Prelude.{Contains, not, count_by, ◌⊎◌, ◌↔◌}
use Rattle.std.proofs.lemmas.List.{length-set, length-replicate, get_or-replicate, get_or-set_same, get_or-set_other, get_or_past, length_push}
use Rattle.std.proofs.lemmas.List.Sums.{sum_by-set}
use Rattle.std.proofs.lemmas.List.Elements.{Contains-push, Contains-push_cases, Contains-append_left}
use Rattle.std.proofs.lemmas.Option.{get_or_from_slice_get, slice_get_within}
use Rattle.std.proofs.lemmas.Bool.{cases_eq, cases_lt, false≢true}
use Rattle.rx_cycle.specs.declared.ends.Ends.{Ends}
use Rattle.rx_cycle.specs.Graph.{IsLink, IsPath, LeadsTo}
use Rattle.rx_cycle.specs.Ways.{IsLastFrom, IsSeen, HasReached}

-- two readings of one link
pub same_link : (links : List Ends) (k : ℕ) (a b : Ends) → IsLink links k a → IsLink links k b → a ≡ b
same_link links k a b h g = sym (get_or_from_slice_get links k a a h) ∙ get_or_from_slice_get links k b a g

path_and_link : (links : List Ends) (a : ℕ) (path : List ℕ) (b k : ℕ) (link : Ends) → IsPath links a path b → IsLink links k link → link.source ≡ b → IsPath links a (path ++ k ∷ []) link.target
path_and_link links a [] b k link p l s = (link, l, s ∙ sym p, refl)
path_and_link links a (i ∷ path) b k link p l s = (p.0, p.1, p.2, path_and_link links p.0.target path b k link p.3 l s)

-- a path goes on by a link
pub leads_on : (links : List Ends) (a b k : ℕ) (link : Ends) → LeadsTo links a b → IsLink links k link → link.source ≡ b → LeadsTo links a link.target
leads_on links a b k link w l s = (w.0 ++ k ∷ [], path_and_link links a w.0 b k link w.1 l s)

-- what was seen stays so
seen_stays : (seen : List Bool) (t v : ℕ) → t < length seen → IsSeen seen v → IsSeen (set seen t true) v
seen_stays seen t v h s = ⊎_elim
    (λ (q : v ≡ t). ap (λ (w : ℕ). get_or (set seen t true) w false) q ∙ get_or-set_same seen t true false h)
    (λ (q : v ≡ t → ⊥). get_or-set_other seen t v true false q ∙ s)
    (cases_eq v t)

-- and nothing else is seen but the new one
seen_before : (seen : List Bool) (t v : ℕ) → (v ≡ t → ⊥) → IsSeen (set seen t true) v → IsSeen seen v
seen_before seen t v q s = sym (get_or-set_other seen t v true false q) ∙ s

pub marked : (links : List Ends) (n start : ℕ) (seen : List Bool) (waiting : List ℕ) (node next t : ℕ) → HasReached links n start seen waiting node next → t < n → LeadsTo links start t → HasReached links n start (set seen t true) (waiting ++ t ∷ []) node next
marked links n start seen waiting node next t r b w =
    let within : t < length seen = subst (λ (m : ℕ). t < m) (sym r.nodes) b in
    record {
      nodes = length-set seen t true ∙ r.nodes;
      from_start = seen_stays seen t start within r.from_start;
      from_node = seen_stays seen t node within r.from_node;
      reached = λ v s. ⊎_elim
          (λ (q : v ≡ t). subst (λ (x : ℕ). LeadsTo links start x) (sym q) w)
          (λ (q : v ≡ t → ⊥). r.reached v (seen_before seen t v q s))
          (cases_eq v t);
      waits = λ v c. ⊎_elim
          (λ (o : Contains waiting v). seen_stays seen t v within (r.waits v o))
          (λ (q : t ≡ v). ap (λ (x : ℕ). get_or (set seen t true) x false) (sym q) ∙ get_or-set_same seen t true false within)
          (Contains-push_cases waiting t v c);
      followed = λ k link l s. ⊎_elim
          (λ (q : link.source ≡ t). inr (inl (subst (λ (x : ℕ). Contains (waiting ++ t ∷ []) x) (sym q) (Contains-push waiting t))))
          (λ (q : link.source ≡ t → ⊥). ⊎_elim
          (λ (o : IsSeen seen link.target). inl (seen_stays seen t link.target within o))
          (λ (o : Contains waiting link.source ⊎ ((link.source ≡ node) × (k < next))). ⊎_elim
          (λ (c : Contains waiting link.source). inr (inl (Contains-append_left waiting (t ∷ []) link.source c)))
          (λ (c : (link.source ≡ node) × (k < next)). inr (inr c))
          o)
          (r.followed k link l (seen_before seen t link.source q s)))
          (cases_eq link.source t);
    }

pub passed : (links : List Ends) (n start : ℕ) (seen : List Bool) (waiting : List ℕ) (node next p : ℕ) (this : Ends) → HasReached links n start seen waiting node next → IsLink links (next - 1) this → IsSeen seen this.target → IsLastFrom links node (next - 1) p → HasReached links n start seen waiting node p
passed links n start seen waiting node next p this r l t before = record {
  nodes = r.nodes;
  from_start = r.from_start;
  from_node = r.from_node;
  reached = r.reached;
  waits = r.waits;
  followed = λ k link g s. ⊎_elim
      (λ (o : IsSeen seen link.target). inl o)
      (λ (o : Contains waiting link.source ⊎ ((link.source ≡ node) × (k < next))). ⊎_elim
      (λ (c : Contains waiting link.source). inr (inl c))
      (λ (c : (link.source ≡ node) × (k < next)). ⊎_elim
      (λ (q : k < p). inr (inr (c.0, q)))
      (λ (q : p ≤ k). ⊎_elim
      (λ (e : k ≡ next - 1). inl (subst (λ (x : Ends). IsSeen seen x.target) (same_link links (next - 1) this link l (subst (λ (j : ℕ). IsLink links j link) e g)) t))
      (λ (e : k ≡ next - 1 → ⊥). let b = c.1 in absurd (before.none k link q (omega arith) g c.0))
      (cases_eq k (next - 1)))
      (cases_lt k p))
      o)
      (r.followed k link g s);
}

-- one node more is seen, and one more waits
pub count_marked : (seen : List Bool) (waiting : List ℕ) (t : ℕ) → t < length seen → get_or seen t false ≡ false → count_by not (set seen t true) + length (waiting ++ t ∷ []) ≡ count_by not seen + length waiting
count_marked seen waiting t h e =
    let s : count_by not (set seen t true) + cond {A = ℕ} (not (get_or seen t false)) 1 0 ≡ count_by not seen + 0 = sum_by-set (λ (x : Bool). cond {A = ℕ} (not x) 1 0) seen t true false h in
    let one : cond {A = ℕ} (not (get_or seen t false)) 1 0 ≡ 1 = ap (λ (x : Bool). cond {A = ℕ} (not x) 1 0) e in
    let p = length_push waiting t in
    omega arith

nothing : (v : ℕ) → Contains [] v → ⊥
nothing v c = let h = c.1 in absurd (omega arith)

-- at first nothing but the start is seen
never : (n v start : ℕ) → start < n → (v ≡ start → ⊥) → IsSeen (set (replicate n false) start true) v → ⊥
never n v start b q s = ⊎_elim
    (λ (h : v < n). false≢true (sym (get_or-replicate n v false false h) ∙ seen_before (replicate n false) start v q s))
    (λ (h : n ≤ v). false≢true (sym (get_or_past (replicate n false) v false (let e = length-replicate n false in omega arith)) ∙ seen_before (replicate n false) start v q s))
    (cases_lt v n)

first : (links : List Ends) (n start : ℕ) → start < n → HasReached links n start (set (replicate n false) start true) (start ∷ []) start 0
first links n start b =
    let at_start : IsSeen (set (replicate n false) start true) start = get_or-set_same (replicate n false) start true false (subst (λ (m : ℕ). start < m) (sym (length-replicate n false)) b) in
    record {
      nodes = length-set (replicate n false) start true ∙ length-replicate n false;
      from_start = at_start;
      from_node = at_start;
      reached = λ v s. ⊎_elim (λ (q : v ≡ start). ([], sym q)) (λ (q : v ≡ start → ⊥). absurd (never n v start b q s)) (cases_eq v start);
      waits = λ v c. ⊎_elim
          (λ (q : Contains [] v). absurd (nothing v q))
          (λ (q : start ≡ v). subst (λ (x : ℕ). IsSeen (set (replicate n false) start true) x) q at_start)
          (Contains-push_cases [] start v c);
      followed = λ k link l s. ⊎_elim
          (λ (q : link.source ≡ start). inr (inl (subst (λ (x : ℕ). Contains (start ∷ []) x) (sym q) (Contains-push [] start))))
          (λ (q : link.source ≡ start → ⊥). absurd (never n link.source start b q s))
          (cases_eq link.source start);
    }

pub begun : (links : List Ends) (n start : ℕ) (seen : List Bool) (waiting : List ℕ) → start < n → seen ≡ set (replicate n false) start true → waiting ≡ start ∷ [] → HasReached links n start seen waiting start 0
begun links n start seen waiting b e f = subst (λ (s : List Bool). HasReached links n start s waiting start 0) (sym e) (subst (λ (w : List ℕ). HasReached links n start (set (replicate n false) start true) w start 0) (sym f) (first links n start b))

-- the node that waited last no longer waits, and its links are to be followed
pub popped : (links : List Ends) (n start : ℕ) (seen : List Bool) (waiting rest : List ℕ) (node v next : ℕ) → HasReached links n start seen waiting v 0 → waiting ≡ rest ++ node ∷ [] → next ≡ length links → HasReached links n start seen rest node next
popped links n start seen waiting rest node v next r e f =
    let still : (x : ℕ) → Contains rest x → Contains waiting x = λ x c. subst (λ (w : List ℕ). Contains w x) (sym e) (Contains-append_left rest (node ∷ []) x c) in
    let last : Contains waiting node = subst (λ (w : List ℕ). Contains w node) (sym e) (Contains-push rest node) in
    record {
      nodes = r.nodes;
      from_start = r.from_start;
      from_node = r.waits node last;
      reached = r.reached;
      waits = λ x c. r.waits x (still x c);
      followed = λ k link l s. ⊎_elim
          (λ (o : IsSeen seen link.target). inl o)
          (λ (o : Contains waiting link.source ⊎ ((link.source ≡ v) × (k < 0))). ⊎_elim
          (λ (c : Contains waiting link.source). ⊎_elim
          (λ (d : Contains rest link.source). inr (inl d))
          (λ (d : node ≡ link.source). inr (inr (sym d, subst (λ (m : ℕ). k < m) (sym f) (slice_get_within links k link l))))
          (Contains-push_cases rest node link.source (subst (λ (w : List ℕ). Contains w link.source) e c)))
          (λ (c : (link.source ≡ v) × (k < 0)). let h = c.1 in absurd (omega arith))
          o)
          (r.followed k link l s);
    }

-- with no link of the node left, the node is like any other
pub rest : (links : List Ends) (n start : ℕ) (seen : List Bool) (waiting : List ℕ) (node : ℕ) → HasReached links n start seen waiting node 0 → HasReached links n start seen waiting start 0
rest links n start seen waiting node r = record {
  nodes = r.nodes;
  from_start = r.from_start;
  from_node = r.from_start;
  reached = r.reached;
  waits = r.waits;
  followed = λ k link l s. ⊎_elim
      (λ (o : IsSeen seen link.target). inl o)
      (λ (o : Contains waiting link.source ⊎ ((link.source ≡ node) × (k < 0))). ⊎_elim
      (λ (c : Contains waiting link.source). inr (inl c))
      (λ (c : (link.source ≡ node) × (k < 0)). let h = c.1 in absurd (omega arith))
      o)
      (r.followed k link l s);
}

-- where no node waits, what a seen node leads to is seen
seen_along : (links : List Ends) (n start : ℕ) (seen : List Bool) (v : ℕ) → HasReached links n start seen [] v 0 → (at : ℕ) (path : List ℕ) (end : ℕ) → IsSeen seen at → IsPath links at path end → IsSeen seen end
seen_along links n start seen v r at [] end s p = subst (λ (x : ℕ). IsSeen seen x) p s
seen_along links n start seen v r at (i ∷ path) end s p =
    let next : IsSeen seen p.0.target = ⊎_elim
    (λ (o : IsSeen seen p.0.target). o)
    (λ (o : Contains [] p.0.source ⊎ ((p.0.source ≡ v) × (i < 0))). ⊎_elim
    (λ (c : Contains [] p.0.source). absurd (nothing p.0.source c))
    (λ (c : (p.0.source ≡ v) × (i < 0)). let h = c.1 in absurd (omega arith))
    o)
    (r.followed i p.0 p.1 (subst (λ (x : ℕ). IsSeen seen x) (sym p.2) s)) in
    seen_along links n start seen v r p.0.target path end next p.3

-- in the end the seen nodes are those to which the start leads
pub ended : (links : List Ends) (n start : ℕ) (seen : List Bool) (waiting : List ℕ) (v end : ℕ) → HasReached links n start seen waiting v 0 → waiting ≡ [] → IsSeen seen end ↔ LeadsTo links start end
ended links n start seen waiting v end r e = (
  λ s. r.reached end s,
  λ w. seen_along links n start seen v (subst (λ (ws : List ℕ). HasReached links n start seen ws v 0) e r) start w.0 end r.from_start w.1,
)

-- all links of the node from `next` on are followed, where `next` is its last one
all_followed : (links : List Ends) (n start node next : ℕ) (seen : List Bool) (waiting : List ℕ) → IsLastFrom links node (length links) next → HasReached links n start seen waiting node (length links) → HasReached links n start seen waiting node next
all_followed links n start node next seen waiting chain r = record {
  nodes = r.nodes;
  from_start = r.from_start;
  from_node = r.from_node;
  reached = r.reached;
  waits = r.waits;
  followed = λ k link l s. ⊎_elim
      (λ (o : IsSeen seen link.target). inl o)
      (λ (o : Contains waiting link.source ⊎ ((link.source ≡ node) × (k < length links))). ⊎_elim
      (λ (c : Contains waiting link.source). inr (inl c))
      (λ (c : (link.source ≡ node) × (k < length links)). ⊎_elim
      (λ (q : k < next). inr (inr (c.0, q)))
      (λ (q : next ≤ k). absurd (chain.none k link q c.1 l c.0))
      (cases_lt k next))
      o)
      (r.followed k link l s);
}

-- The links of the node from `next` on are followed since `old` nodes were seen and `left` ones waited.
pub record Following (links : List Ends) (n : ℕ) (old : List Bool) (left : List ℕ) (node next : ℕ) (seen : List Bool) (waiting : List ℕ) : Type 0 where
  pub bound : ℕ
  pub within : bound ≤ length links
  pub chain : IsLastFrom links node bound next
  pub nodes : length seen ≡ n
  pub count : count_by not seen + length waiting ≡ count_by not old + length left
  pub reached : (start : ℕ) → HasReached links n start old left node (length links) → HasReached links n start seen waiting node next

pub following : (links : List Ends) (n node next : ℕ) (seen : List Bool) (waiting : List ℕ) → length seen ≡ n → IsLastFrom links node (length links) next → Following links n seen waiting node next seen waiting
following links n node next seen waiting e chain = record {
  bound = length links;
  within = omega arith;
  chain = chain;
  nodes = e;
  count = refl;
  reached = λ start r. all_followed links n start node next seen waiting chain r;
}

pub skip : (links : List Ends) (n : ℕ) (old : List Bool) (left : List ℕ) (node next p : ℕ) (seen : List Bool) (waiting : List ℕ) (this : Ends) → Following links n old left node next seen waiting → 0 < next → IsLink links (next - 1) this → IsSeen seen this.target → IsLastFrom links this.source (next - 1) p → Following links n old left node p seen waiting
skip links n old left node next p seen waiting this f h l t before =
    let chain = subst (λ (x : ℕ). IsLastFrom links x (next - 1) p) (f.chain.here (next - 1) this (omega arith) l) before in
    record {
      bound = next - 1;
      within = let a = f.within in let b = f.chain.within in omega arith;
      chain = chain;
      nodes = f.nodes;
      count = f.count;
      reached = λ start r. passed links n start seen waiting node next p this (f.reached start r) l t chain;
    }

pub mark : (links : List Ends) (n : ℕ) (old : List Bool) (left : List ℕ) (node next p : ℕ) (seen new : List Bool) (waiting pushed : List ℕ) (this : Ends) → Following links n old left node next seen waiting → 0 < next → IsLink links (next - 1) this → this.target < n → get_or seen this.target false ≡ false → IsLastFrom links this.source (next - 1) p → new ≡ set seen this.target true → pushed ≡ waiting ++ this.target ∷ [] → Following links n old left node p new pushed
mark links n old left node next p seen new waiting pushed this f h l b u before e g =
    let source = f.chain.here (next - 1) this (omega arith) l in
    let within : this.target < length seen = subst (λ (m : ℕ). this.target < m) (sym f.nodes) b in
    let now : Following links n old left node next (set seen this.target true) (waiting ++ this.target ∷ []) = record {
      bound = f.bound;
      within = f.within;
      chain = f.chain;
      nodes = length-set seen this.target true ∙ f.nodes;
      count = count_marked seen waiting this.target within u ∙ f.count;
      reached = λ start r. let s = f.reached start r in marked links n start seen waiting node next this.target s b (leads_on links start node (next - 1) this (s.reached node s.from_node) l source);
    } in
    subst (λ (s : List Bool). Following links n old left node p s pushed) (sym e) (subst (λ (ws : List ℕ). Following links n old left node p (set seen this.target true) ws) (sym g)
    (skip links n old left node next p (set seen this.target true) (waiting ++ this.target ∷ []) this now h l (get_or-set_same seen this.target true false within) before))

-- what is seen is a node
pub seen_within : (seen : List Bool) (v : ℕ) → IsSeen seen v → v < length seen
seen_within seen v s = ⊎_elim (λ (h : v < length seen). h) (λ (h : length seen ≤ v). absurd (false≢true (sym (get_or_past seen v false h) ∙ s))) (cases_lt v (length seen))
