-- Two paths that read the same numbers go the same way, where no two links of a node are taken together.
use Rattle.std.proofs.Common.{◌≡◌, ℕ, ◌<◌, ◌^◌, List, [], ◌∷◌, ◌++◌, Option, Some, None, refl, sym, ap, ◌∙◌, subst, append_assoc, append-nil, ◌⊎◌, inl, inr}
use Rattle.std.specs.Prelude.{slice_get}
use Rattle.std.specs.List.{AllByRecursion}
use Rattle.rx_types.specs.Domain.{Domain}
use Rattle.rx_types.specs.Environment.{Placed, Environment, in_message}
use Rattle.rx_graph.specs.declared.message.Node.{Node}
use Rattle.rx_graph.specs.declared.message.Node.TheVariants.{Start, At, Null}
use Rattle.rx_graph.specs.Graph.{Arrow, Graph, type_of}
use Rattle.rx_graph.specs.Paths.{HasNumber, IsTrue, placed_by, Places, first_of, size_of_target, Leads, IsPartial, Ends, IsWhole, Exclusive, Reader, IsReadBy, HasOnePath}

pub at_field : (f g : ℕ) → At f ≡ At g → f ≡ g
at_field f g h = cc

pub at_null : (f : ℕ) → At f ≡ Null → ⊥
at_null f h = cc

pub some_same : (a b : Arrow) → Some a ≡ Some b → a ≡ b
some_same a b h = cc

same_number : (t : Option Domain) (n k : ℕ) → HasNumber t n → HasNumber t k → ((s : Domain) → t ≡ Some s → n ≡ k) → n ≡ k
same_number None n k h h' read = h ∙ sym h'
same_number (Some s) n k h h' read = read s refl

module _ (domains : List Domain) (m : Graph) where
  -- a path goes on where another one ends
  pub leads_on : (total : ℕ) (before : List Placed) (at : Node) (path : List ℕ) (fields : List Placed) (mid : Node) (rest : List ℕ) (more : List Placed) (end : Node) → Leads domains m total before at path fields mid → Leads domains m total (before ++ fields) mid rest more end → Leads domains m total before at (path ++ rest) (fields ++ more) end
  leads_on total before at [] [] mid rest more end h k =
      subst (λ n. Leads domains m total before n rest more end) (sym h) (subst (λ l. Leads domains m total l mid rest more end) (append-nil before) k)
  leads_on total before at [] (p ∷ fields) mid rest more end h k = absurd h
  leads_on total before at (i ∷ path) [] mid rest more end h k = absurd h
  leads_on total before at (i ∷ path) (p ∷ fields) mid rest more end h k =
      (h.0, h.1, h.2, h.3, leads_on total (before ++ p ∷ []) (At p.field) path fields mid rest more end h.4 (subst (λ l. Leads domains m total l mid rest more end) (sym (append_assoc before (p ∷ []) fields)) k))

  -- one path after another: the second begins with the first
  pub record Extends (total : ℕ) (before : List Placed) (path : List ℕ) (fields : List Placed) (mid : Node) (longer : List ℕ) (all : List Placed) (end : Node) : Type 0 where
    pub rest : List ℕ
    pub more : List Placed
    pub path_is : longer ≡ path ++ rest
    pub fields_are : all ≡ fields ++ more
    pub leads : Leads domains m total (before ++ fields) mid rest more end

  from_none : (total : ℕ) (before : List Placed) (at mid : Node) (path : List ℕ) (fields : List Placed) (end : Node) → at ≡ mid → Leads domains m total before at path fields end → Extends total before [] [] mid path fields end
  from_none total before at mid path fields end e h =
      record { rest = path; more = fields; path_is = refl; fields_are = refl; leads = subst (λ n. Leads domains m total (before ++ []) n path fields end) e (subst (λ l. Leads domains m total l at path fields end) (sym (append-nil before)) h) }

  one_more : (total : ℕ) (before : List Placed) (i j : ℕ) (p q : Placed) (path other : List ℕ) (fields more : List Placed) (end end' : Node) → i ≡ j → p ≡ q → Extends total (before ++ p ∷ []) path fields end other more end' → Extends total before (i ∷ path) (p ∷ fields) end (j ∷ other) (q ∷ more) end'
  one_more total before i j p q path other fields more end end' e f x =
      record {
        rest = x.rest;
        more = x.more;
        path_is = ap (λ n. n ∷ other) (sym e) ∙ ap (λ l. i ∷ l) x.path_is;
        fields_are = ap (λ n. n ∷ more) (sym f) ∙ ap (λ l. p ∷ l) x.fields_are;
        leads = subst (λ l. Leads domains m total l end x.rest x.more end') (append_assoc before (p ∷ []) fields) x.leads;
      }

  module _ (read : Reader) where
    -- a link places its target in one way
    same_place : (a b : Arrow) (e : Environment) (p q : Placed) → a ≡ b → Places domains m a e p → Places domains m b e q → IsReadBy domains m read p → IsReadBy domains m read q → p ≡ q
    same_place a b e p q same h k r s =
        let field : p.field ≡ q.field = at_field p.field q.field (sym h.target ∙ ap (λ l. l.target) same ∙ k.target) in
        let first : p.first ≡ q.first = ap (λ x. x.first) h.place ∙ ap (λ l. first_of l e) same ∙ sym (ap (λ x. x.first) k.place) in
        let size : p.size ≡ q.size = ap (λ x. x.size) h.place ∙ ap (λ l. size_of_target (type_of domains m p.field) l e) same ∙ ap (λ f. size_of_target (type_of domains m f) b e) field ∙ sym (ap (λ x. x.size) k.place) in
        let typed : HasNumber (type_of domains m p.field) q.number = subst (λ f. HasNumber (type_of domains m f) q.number) (sym field) k.number in
        let reads : (t : Domain) → type_of domains m p.field ≡ Some t → read p.field p.first p.size ≡ q.number =
        λ t is. ap (λ f. read f p.first p.size) field ∙ ap (λ z. read q.field z p.size) first ∙ ap (λ z. read q.field q.first z) size ∙ sym (s t (ap (λ f. type_of domains m f) (sym field) ∙ is)) in
        let number : p.number ≡ q.number = same_number (type_of domains m p.field) p.number q.number h.number typed (λ t is. r t is ∙ reads t is) in
        h.place ∙ ap (λ l. placed_by domains m l e p.field p.number) same ∙ ap (λ f. placed_by domains m b e f p.number) field ∙ ap (λ n. placed_by domains m b e q.field n) number ∙ sym k.place

    module _ (exclusive : Exclusive domains m) (total : ℕ) (short : total < 2 ^ 24) where
      -- of two paths that go on from one place, one is the beginning of the other
      pub comparable : (front : List ℕ) (before : List Placed) (at : Node) → Leads domains m total [] Start front before at → (path : List ℕ) (fields : List Placed) (end : Node) → Leads domains m total before at path fields end → (other : List ℕ) (more : List Placed) (end' : Node) → Leads domains m total before at other more end' → AllByRecursion (IsReadBy domains m read) fields → AllByRecursion (IsReadBy domains m read) more → Extends total before path fields end other more end' ⊎ Extends total before other more end' path fields end
      comparable front before at lead [] [] end h other more end' k r s =
          inl (from_none total before at end other more end' h k)
      comparable front before at lead [] (p ∷ fields) end h other more end' k r s = absurd h
      comparable front before at lead (i ∷ path) [] end h other more end' k r s = absurd h
      comparable front before at lead (i ∷ path) (p ∷ fields) end h [] [] end' k r s =
          inr (from_none total before at end' (i ∷ path) (p ∷ fields) end k h)
      comparable front before at lead (i ∷ path) (p ∷ fields) end h [] (q ∷ more) end' k r s = absurd k
      comparable front before at lead (i ∷ path) (p ∷ fields) end h (j ∷ other) [] end' k r s = absurd k
      comparable front before at lead (i ∷ path) (p ∷ fields) end h (j ∷ other) (q ∷ more) end' k r s =
          let index : i ≡ j = exclusive total front before at i j h.0 k.0 (record { short = short; leads = lead }) h.1 k.1 h.2 k.2 h.3.taken k.3.taken in
          let link : h.0 ≡ k.0 = some_same h.0 k.0 (sym h.1 ∙ ap (λ n. slice_get m.links n) index ∙ k.1) in
          let place : p ≡ q = same_place h.0 k.0 (in_message total before) p q link h.3 k.3 r.0 s.0 in
          let step : Leads domains m total before at (i ∷ []) (p ∷ []) (At p.field) = (h.0, h.1, h.2, h.3, refl) in
          let lead' = leads_on total [] Start front before at (i ∷ []) (p ∷ []) (At p.field) lead step in
          let moved = subst (λ x. Leads domains m total (before ++ x ∷ []) (At x.field) other more end') (sym place) k.4 in
          elim (comparable (front ++ i ∷ []) (before ++ p ∷ []) (At p.field) lead' path fields end h.4 other more end' moved r.1 s.1) [
            | inl x ↦ inl (one_more total before i j p q path other fields more end end' index place x)
            | inr x ↦ inr (one_more total before j i q p other path more fields end' end (sym index) (sym place) (subst (λ y. Extends total (before ++ y ∷ []) other more end' path fields end) place x))
          ]

  -- where a link to null is taken, no path goes on
  pub ends_here : Exclusive domains m → (total : ℕ) → total < 2 ^ 24 → (front : List ℕ) (fields : List Placed) (at : Node) → Leads domains m total [] Start front fields at → (last : ℕ) → Ends domains m total fields at last → (rest : List ℕ) (more : List Placed) (end : Node) → Leads domains m total fields at rest more end → (rest ≡ []) × (more ≡ []) × (at ≡ end)
  ends_here exclusive total short front fields at lead last e [] [] end h = (refl, refl, h)
  ends_here exclusive total short front fields at lead last e [] (p ∷ more) end h = absurd h
  ends_here exclusive total short front fields at lead last e (k ∷ rest) [] end h = absurd h
  ends_here exclusive total short front fields at lead last e (k ∷ rest) (p ∷ more) end h =
      let index : k ≡ last = exclusive total front fields at k last h.0 e.link (record { short = short; leads = lead }) h.1 e.is h.2 e.source h.3.taken e.taken in
      let link : h.0 ≡ e.link = some_same h.0 e.link (sym h.1 ∙ ap (λ n. slice_get m.links n) index ∙ e.is) in
      let clash : At p.field ≡ Null = sym h.3.target ∙ ap (λ l. l.target) link ∙ e.target in
      absurd (at_null p.field clash)

  same_last : Exclusive domains m → (total : ℕ) (front other : List ℕ) (fields more : List Placed) (at end : Node) (i j : ℕ) → IsPartial domains m total front fields at → front ≡ other → fields ≡ more → at ≡ end → Ends domains m total fields at i → Ends domains m total more end j → front ++ i ∷ [] ≡ other ++ j ∷ []
  same_last exclusive total front other fields more at end i j part e f n x y =
      let index : i ≡ j = exclusive total front fields at i j x.link y.link part x.is y.is x.source (y.source ∙ sym n) x.taken (subst (λ l. IsTrue y.link (in_message total l)) (sym f) y.taken) in
      ap (λ l. l ++ i ∷ []) e ∙ ap (λ k. other ++ k ∷ []) index

  same_whole : Exclusive domains m → (total : ℕ) (path other : List ℕ) (fields more : List Placed) (w : IsWhole domains m total path fields) (v : IsWhole domains m total other more) → Extends total [] w.front fields w.node v.front more v.node → (path ≡ other) × (fields ≡ more)
  same_whole exclusive total path other fields more w v x =
      let done = ends_here exclusive total w.partial.short w.front fields w.node w.partial.leads w.last w.ends x.rest x.more v.node x.leads in
      let front : w.front ≡ v.front = sym (x.path_is ∙ ap (λ l. w.front ++ l) done.0 ∙ append-nil w.front) in
      let same : fields ≡ more = sym (x.fields_are ∙ ap (λ l. fields ++ l) done.1 ∙ append-nil fields) in
      (w.is ∙ same_last exclusive total w.front v.front fields more w.node v.node w.last v.last w.partial front same done.2 w.ends v.ends ∙ sym v.is, same)

  -- at most one whole path fits
  pub one_path : Exclusive domains m → HasOnePath domains m
  one_path exclusive read total path other fields more w v r s =
      elim (comparable read exclusive total w.partial.short [] [] Start refl w.front fields w.node w.partial.leads v.front more v.node v.partial.leads r s) [
        | inl x ↦ same_whole exclusive total path other fields more w v x
        | inr x ↦ (let e = same_whole exclusive total other path more fields v w x in (sym e.0, sym e.1))
      ]
