-- A valuation that fits a Sound message is as long as the message.
use Rattle.std.proofs.Common.{◌≡◌, ◌≢◌, ℕ, ◌+◌, ◌*◌, ◌≤◌, Bool, true, false, List, [], ◌∷◌, ◌++◌, Option, Some, None, IsSome, refl, sym, ap, ◌∙◌, subst, inl, inr, arith}
use Rattle.std.specs.Prelude.{pos, slice_get, if◌then◌else◌, ◌==◌}
use Rattle.std.specs.List.{AllByRecursion, IsDistinct}
use Rattle.std.proofs.lemmas.Int.{ints}
use Rattle.std.proofs.lemmas.Bool.Decides.{Decides-eqb}
use Rattle.rx_types.specs.Domain.{Domain, size_of}
use Rattle.rx_types.specs.Environment.{Placed, IsAmong, AreDistinct, fields_of, in_message}
use Rattle.rx_graph.specs.declared.message.Node.{Node}
use Rattle.rx_graph.specs.declared.message.Node.TheVariants.{Start, At}
use Rattle.rx_graph.specs.Graph.{Graph, type_of, overlay_of}
use Rattle.rx_graph.specs.Paths.{Leads, size_of_target}
use Rattle.rx_graph.specs.Elaborated.{IsSound}
use Rattle.rx_graph.specs.Fits.{Content, Number, Bytes, Assigned, content_of, AscendFrom, IsAscending, content_size, IsContent, unless_overlay, own_bits, length_of, Fits}
use Rattle.rx_graph.specs.Laws.{size_if, own_sizes}
use Rattle.rx_graph.proofs.Covered.{length_is}
use Rattle.rx_graph.proofs.Distinct.{distinct}

true_false : true ≡ false → ⊥
true_false e = cc

none_some : (c : Content) → None ≡ Some c → ⊥
none_some c e = cc

-- each field once
abbrev pub Once : List Assigned → Type 0
Once [] = Unit {0}
Once (a ∷ rest) = (content_of a.field rest ≡ None) × Once rest

skip : (b : Bool) (x : Option Content) (c : Content) → b ≡ false → (if b then Some c else x) ≡ x
skip true x c e = absurd (true_false e)
skip false x c e = refl

unequal : (f g : ℕ) → f ≢ g → (b : Bool) → (f == g) ≡ b → b ≡ false
unequal f g h true e = absurd (h ((Decides-eqb f g).0 e))
unequal f g h false e = refl

other : (f g : ℕ) → f ≢ g → (f == g) ≡ false
other f g h = unequal f g h (f == g) refl

-- a field below those that are there
below : (f least : ℕ) (rest : List Assigned) → f ≤ least → AscendFrom least rest → content_of f rest ≡ None
below f least [] h k = refl
below f least (a ∷ rest) h k =
    skip (a.field == f) (content_of f rest) a.content (other a.field f (λ e. omega (arith, h, k.0, e))) ∙ below f a.field rest (omega (arith, h, k.0)) k.1

once_from : (least : ℕ) (values : List Assigned) → AscendFrom least values → Once values
once_from least [] h = tt
once_from least (a ∷ rest) h = (below a.field a.field rest (omega arith) h.1, once_from a.field rest h.1)

pub once : (values : List Assigned) → IsAscending values → Once values
once [] h = tt
once (a ∷ rest) h = (below a.field a.field rest (omega arith) h, once_from a.field rest h)

-- all but field f
abbrev without : ℕ → List Assigned → List Assigned
without f [] = []
without f (a ∷ rest) = if a.field == f then rest else a ∷ without f rest

content_if : (b : Bool) (a : Assigned) (f g : ℕ) (rest more : List Assigned) → (b ≡ true → a.field ≡ f) → g ≢ f → content_of g more ≡ content_of g rest → content_of g (if b then rest else a ∷ more) ≡ content_of g (a ∷ rest)
content_if true a f g rest more is h k = sym (skip (a.field == g) (content_of g rest) a.content (other a.field g (λ e. h (sym e ∙ is refl))))
content_if false a f g rest more is h k = ap (λ x. if a.field == g then Some a.content else x) k

-- the other fields keep their contents
others_stay : (f g : ℕ) (values : List Assigned) → g ≢ f → content_of g (without f values) ≡ content_of g values
others_stay f g [] h = refl
others_stay f g (a ∷ rest) h = content_if (a.field == f) a f g rest (without f rest) (Decides-eqb a.field f).0 h (others_stay f g rest h)

gone_if : (b : Bool) (a : Assigned) (f : ℕ) (rest more : List Assigned) → (b ≡ true → a.field ≡ f) → (a.field ≡ f → b ≡ true) → content_of a.field rest ≡ None → content_of f more ≡ None → content_of f (if b then rest else a ∷ more) ≡ None
gone_if true a f rest more is back h k = ap (λ x. content_of x rest) (sym (is refl)) ∙ h
gone_if false a f rest more is back h k = skip (a.field == f) (content_of f more) a.content (other a.field f (λ e. true_false (sym (back e)))) ∙ k

gone : (f : ℕ) (values : List Assigned) → Once values → content_of f (without f values) ≡ None
gone f [] h = refl
gone f (a ∷ rest) h = gone_if (a.field == f) a f rest (without f rest) (Decides-eqb a.field f).0 (Decides-eqb a.field f).1 h.0 (gone f rest h.1)

once_if : (b : Bool) (a : Assigned) (f : ℕ) (rest more : List Assigned) → (a.field ≡ f → b ≡ true) → Once rest → Once more → content_of a.field rest ≡ None → (a.field ≢ f → content_of a.field more ≡ content_of a.field rest) → Once (if b then rest else a ∷ more)
once_if true a f rest more back h k n same = h
once_if false a f rest more back h k n same = (same (λ e. true_false (sym (back e))) ∙ n, k)

once_without : (f : ℕ) (values : List Assigned) → Once values → Once (without f values)
once_without f [] h = tt
once_without f (a ∷ rest) h = once_if (a.field == f) a f rest (without f rest) (Decides-eqb a.field f).1 h.1 (once_without f rest h.1) h.0 (others_stay f a.field rest)

some_content : (a b : Content) → Some a ≡ Some b → a ≡ b
some_content a b e = cc

module _ (domains : List Domain) (m : Graph) where
  abbrev own : ℕ → Content → ℕ
  own f c = unless_overlay (overlay_of (slice_get m.fields f)) (content_size (type_of domains m f) c)

  split_if : (b : Bool) (a : Assigned) (f : ℕ) (c : Content) (rest more : List Assigned) → (b ≡ true → a.field ≡ f) → (if b then Some a.content else content_of f rest) ≡ Some c → (content_of f rest ≡ Some c → own_bits domains m rest ≡ own f c + own_bits domains m more) → own_bits domains m (a ∷ rest) ≡ own f c + own_bits domains m (if b then rest else a ∷ more)
  split_if true a f c rest more is h k = ap (λ x. own x a.content + own_bits domains m rest) (is refl) ∙ ap (λ x. own f x + own_bits domains m rest) (some_content a.content c h)
  split_if false a f c rest more is h k = let e = k h in omega (arith, e)

  split : (f : ℕ) (c : Content) (values : List Assigned) → content_of f values ≡ Some c → own_bits domains m values ≡ own f c + own_bits domains m (without f values)
  split f c [] h = absurd (none_some c h)
  split f c (a ∷ rest) h = split_if (a.field == f) a f c rest (without f rest) (Decides-eqb a.field f).0 h (split f c rest)

  -- the place of a scalar is as long as its type says
  abbrev pub HasItsSize : Placed → Type 0
  HasItsSize p = (t : Domain) → type_of domains m p.field ≡ Some t → p.size ≡ pos (size_of t)

  size_of_content : (o : Option Domain) (over : Option ℕ) (p : Placed) (given : Option Content) → ((t : Domain) → o ≡ Some t → p.size ≡ pos (size_of t)) → IsContent o p given → (c : Content) × (given ≡ Some c) × (pos (unless_overlay over (content_size o c)) ≡ size_if over p.size)
  size_of_content (Some t) None p given size h = (Number p.number, h, sym (size t refl))
  size_of_content (Some t) (Some x) p given size h = (Number p.number, h, refl)
  size_of_content None None p given size h = (Bytes h.0, h.1, h.2)
  size_of_content None (Some x) p given size h = (Bytes h.0, h.1, refl)

  -- the fields are different ones
  abbrev pub Differ : List Placed → Type 0
  Differ [] = Unit {0}
  Differ (p ∷ ps) = (IsAmong p.field ps → ⊥) × Differ ps

  kept : (f : ℕ) (values : List Assigned) (ps : List Placed) → (IsAmong f ps → ⊥) → AllByRecursion (λ p. IsContent (type_of domains m p.field) p (content_of p.field values)) ps → AllByRecursion (λ p. IsContent (type_of domains m p.field) p (content_of p.field (without f values))) ps
  kept f values [] apart h = tt
  kept f values (p ∷ ps) apart h =
      (subst (λ o. IsContent (type_of domains m p.field) p o) (sym (others_stay f p.field values (λ e. apart (inl e)))) h.0, kept f values ps (λ k. apart (inr k)) h.1)

  -- only the path's fields have contents
  abbrev pub OnlyOf : List Assigned → List Placed → Type 0
  OnlyOf values ps = (f : ℕ) (c : Content) → content_of f values ≡ Some c → IsAmong f ps

  here : (a : Assigned) (rest : List Assigned) → content_of a.field (a ∷ rest) ≡ Some a.content
  here a rest = ap (λ b. if b then Some a.content else content_of a.field rest) ((Decides-eqb a.field a.field).1 refl)

  among_rest : (f : ℕ) (p : Placed) (ps : List Placed) → f ≢ p.field → IsAmong f (p ∷ ps) → IsAmong f ps
  among_rest f p ps h (inl e) = absurd (h (sym e))
  among_rest f p ps h (inr k) = k

  left_if : (p : Placed) (ps : List Placed) (values : List Assigned) → Once values → OnlyOf values (p ∷ ps) → (f : ℕ) (c : Content) → content_of f (without p.field values) ≡ Some c → (b : Bool) → (f == p.field) ≡ b → IsAmong f ps
  left_if p ps values o n f c h true e =
      absurd (none_some c (sym (gone p.field values o) ∙ ap (λ x. content_of x (without p.field values)) (sym ((Decides-eqb f p.field).0 e)) ∙ h))
  left_if p ps values o n f c h false e =
      let apart : f ≢ p.field = λ z. true_false (sym ((Decides-eqb f p.field).1 z) ∙ e) in
      among_rest f p ps apart (n f c (sym (others_stay p.field f values apart) ∙ h))

  left : (p : Placed) (ps : List Placed) (values : List Assigned) → Once values → OnlyOf values (p ∷ ps) → OnlyOf (without p.field values) ps
  left p ps values o n f c h = left_if p ps values o n f c h (f == p.field) refl

  pub sums : (ps : List Placed) (values : List Assigned) → Once values → Differ ps → OnlyOf values ps → AllByRecursion (λ p. IsContent (type_of domains m p.field) p (content_of p.field values)) ps → AllByRecursion HasItsSize ps → pos (own_bits domains m values) ≡ own_sizes m ps
  sums [] [] o d n c s = refl
  sums [] (a ∷ rest) o d n c s = absurd (n a.field a.content (here a rest))
  sums (p ∷ ps) values o d n c s =
      let k = size_of_content (type_of domains m p.field) (overlay_of (slice_get m.fields p.field)) p (content_of p.field values) s.0 c.0 in
      let rest = sums ps (without p.field values) (once_without p.field values o) d.1 (left p ps values o n) (kept p.field values ps d.0 c.1) s.1 in
      let all = split p.field k.0 values k.1 in
      let size = k.2 in
      omega (arith, ints, all)

  module _ (total : ℕ) where
    pub sizes : (before : List Placed) (at : Node) (path : List ℕ) (fields : List Placed) (end : Node) → Leads domains m total before at path fields end → AllByRecursion HasItsSize fields
    sizes before at [] [] end h = tt
    sizes before at [] (p ∷ fields) end h = absurd h
    sizes before at (i ∷ path) [] end h = absurd h
    sizes before at (i ∷ path) (p ∷ fields) end h =
        (λ t is. ap (λ x. x.size) h.3.place ∙ ap (λ o. size_of_target o h.0 (in_message total before)) is, sizes (before ++ p ∷ []) (At p.field) path fields end h.4)

  is_some : (o : Option Content) (c : Content) → o ≡ Some c → IsSome o
  is_some None c e = absurd (none_some c e)
  is_some (Some x) c e = refl

  not_among : (f : ℕ) (ps : List Placed) → AllByRecursion (λ g. f == g ≡ false) (fields_of ps) → IsAmong f ps → ⊥
  not_among f [] h k = k
  not_among f (p ∷ ps) h (inl e) = true_false (sym ((Decides-eqb f p.field).1 (sym e)) ∙ h.0)
  not_among f (p ∷ ps) h (inr k) = not_among f ps h.1 k

  pub differ : (ps : List Placed) → AreDistinct ps → Differ ps
  unfolding IsDistinct
  differ [] h = tt
  differ (p ∷ ps) h = (not_among p.field ps h.0, differ ps h.1)

  -- a valuation that fits a message of `total` bytes has that length
  pub length_fits : IsSound domains m → (values : List Assigned) → IsAscending values → (total : ℕ) (path : List ℕ) (fields : List Placed) → Fits domains m values total path fields → length_of domains m values ≡ total
  length_fits sound values asc total path fields f =
      let apart = differ fields (distinct domains m total sound.elaborated.acyclic [] Start f.whole.front fields f.whole.node f.whole.partial.leads) in
      let all = sums fields values (once values asc) apart (λ g c e. (f.named g).0 (is_some (content_of g values) c e)) f.contents (sizes total [] Start f.whole.front fields f.whole.node f.whole.partial.leads) in
      let own = length_is domains m sound.elaborated sound.holds total path fields f.whole in
      let bits : own_bits domains m values ≡ total * 8 = let e = all ∙ own in omega (arith, ints) in
      omega (arith, bits)
