-- Where there is a reason to stop, no path that is read goes further, and no whole path fits.
use Rattle.std.proofs.Common.{◌≡◌, ℕ, ◌*◌, ◌≤◌, List, [], ◌∷◌, ◌++◌, length, Option, Some, refl, sym, ap, ◌∙◌, subst, append-nil, inl, inr, arith, length-append}
use Rattle.std.specs.Prelude.{pos, slice_get}
use Rattle.std.specs.List.{AllByRecursion}
use Rattle.rx_types.specs.Domain.{Domain}
use Rattle.rx_types.specs.declared.stuck.Reason.{Reason}
use Rattle.rx_types.specs.declared.stuck.Reason.TheVariants.{Condition, Trailing, Short, Value}
use Rattle.rx_types.specs.Environment.{Placed, end_of, in_message}
use Rattle.rx_graph.specs.declared.message.Node.{Node}
use Rattle.rx_graph.specs.declared.message.Node.TheVariants.{Start}
use Rattle.rx_graph.specs.Graph.{Arrow, Graph, type_of}
use Rattle.rx_graph.specs.Paths.{first_of, size_of_target, HasNumber, LiesWithin, Places, Leads, IsPartial, Ends, IsWhole, Exclusive, Reader, IsReadBy}
use Rattle.rx_graph.specs.Stuck.{Tries, size_by, IsReason, IsStuck}
use Rattle.rx_graph.proofs.Unique.{at_field, at_null, some_same, ends_here, comparable, Extends}
use Rattle.rx_graph.specs.Cycles.{IsLink}

pub all_back : (P : Placed → Type 0) (xs ys : List Placed) → AllByRecursion P (xs ++ ys) → AllByRecursion P ys
all_back P [] ys h = h
all_back P (x ∷ xs) ys h = all_back P xs ys h.1

nonempty : (i : ℕ) (l : List ℕ) → i ∷ l ≡ [] → ⊥
nonempty i l h = cc

module _ (domains : List Domain) (m : Graph) (read : Reader) (exclusive : Exclusive domains m) (total : ℕ) (front : List ℕ) (fields : List Placed) (at : Node) (part : IsPartial domains m total front fields at) where
  -- the link that is tried is the one that a longer path takes
  same_link : (f : ℕ) (link : Arrow) → Tries domains m read (in_message total fields) at f link → (i : ℕ) (other : Arrow) (p : Placed) → IsLink m i other → other.source ≡ at → Places domains m other (in_message total fields) p → (other ≡ link) × (p.field ≡ f)
  same_link f link t i other p is source h =
      let index : i ≡ t.index = exclusive total front fields at i t.index other link part is t.is source t.source h.taken t.taken in
      let same : other ≡ link = some_same other link (sym is ∙ ap (λ n. slice_get m.links n) index ∙ t.is) in
      (same, at_field p.field f (sym h.target ∙ ap (λ l. l.target) same ∙ t.target))

  first_is : (f : ℕ) (link other : Arrow) (p : Placed) → other ≡ link → Places domains m other (in_message total fields) p → p.first ≡ first_of link (in_message total fields)
  first_is f link other p same h = ap (λ x. x.first) h.place ∙ ap (λ l. first_of l (in_message total fields)) same

  size_is : (f : ℕ) (link other : Arrow) (p : Placed) → other ≡ link → p.field ≡ f → Places domains m other (in_message total fields) p → p.size ≡ size_by domains m read link (in_message total fields) f
  size_is f link other p same field h =
      ap (λ x. x.size) h.place ∙ ap (λ l. size_of_target (type_of domains m p.field) l (in_message total fields)) same ∙ ap (λ g. size_of_target (type_of domains m g) link (in_message total fields)) field

  pub stops : (reason : Reason) (field : Option ℕ) → IsReason domains m read (in_message total fields) at reason field → (i : ℕ) (rest : List ℕ) (p : Placed) (more : List Placed) (end : Node) → Leads domains m total fields at (i ∷ rest) (p ∷ more) end → IsReadBy domains m read p → ⊥
  stops Condition field why i rest p more end h r = why.1 i h.0 h.1 h.2 h.3.taken
  stops Trailing field why i rest p more end h r =
      nonempty i rest (ends_here domains m exclusive total part.short front fields at part.leads why.1.0 why.1.1 (i ∷ rest) (p ∷ more) end h).0
  stops Short field why i rest p more end h r =
      let s = same_link why.0 why.1 why.3 i h.0 p h.1 h.2 h.3 in
      why.4 (subst (λ z. LiesWithin (in_message total fields) z (size_by domains m read why.1 (in_message total fields) why.0)) (first_is why.0 why.1 h.0 p s.0 h.3) (subst (λ z. LiesWithin (in_message total fields) p.first z) (size_is why.0 why.1 h.0 p s.0 s.1 h.3) h.3.within))
  stops Value field why i rest p more end h r =
      let s = same_link why.0 why.1 why.3 i h.0 p h.1 h.2 h.3 in
      let typed : type_of domains m p.field ≡ Some why.5 = ap (λ g. type_of domains m g) s.1 ∙ why.6 in
      let number : p.number ≡ read why.0 (first_of why.1 (in_message total fields)) (size_by domains m read why.1 (in_message total fields) why.0) =
      r why.5 typed ∙ ap (λ g. read g p.first p.size) s.1 ∙ ap (λ z. read why.0 z p.size) (first_is why.0 why.1 h.0 p s.0 h.3) ∙ ap (λ z. read why.0 (first_of why.1 (in_message total fields)) z) (size_is why.0 why.1 h.0 p s.0 s.1 h.3) in
      why.7 (subst (λ n. HasNumber (Some why.5) n) number (subst (λ t. HasNumber t p.number) typed h.3.number))

  pub no_more : (reason : Reason) (field : Option ℕ) → IsReason domains m read (in_message total fields) at reason field → (rest : List ℕ) (more : List Placed) (end : Node) → Leads domains m total fields at rest more end → AllByRecursion (IsReadBy domains m read) more → (rest ≡ []) × (more ≡ []) × (at ≡ end)
  no_more reason field why [] [] end h r = (refl, refl, h)
  no_more reason field why [] (p ∷ more) end h r = absurd h
  no_more reason field why (i ∷ rest) [] end h r = absurd h
  no_more reason field why (i ∷ rest) (p ∷ more) end h r = absurd (stops reason field why i rest p more end h r.0)

  pub null_not : (f : ℕ) (link : Arrow) → Tries domains m read (in_message total fields) at f link → (i : ℕ) → Ends domains m total fields at i → ⊥
  null_not f link t i e =
      let index : t.index ≡ i = exclusive total front fields at t.index i link e.link part t.is e.is t.source e.source t.taken e.taken in
      let same : link ≡ e.link = some_same link e.link (sym t.is ∙ ap (λ n. slice_get m.links n) index ∙ e.is) in
      at_null f (sym t.target ∙ ap (λ l. l.target) same ∙ e.target)

  -- nor does it end at null with the message
  ends_not : (reason : Reason) (field : Option ℕ) → IsReason domains m read (in_message total fields) at reason field → (i : ℕ) → Ends domains m total fields at i → end_of fields ≡ pos (total * 8) → ⊥
  ends_not Condition field why i e exact = why.1 i e.link e.is e.source e.taken
  ends_not Trailing field why i e exact = why.2 exact
  ends_not Short field why i e exact = null_not why.0 why.1 why.3 i e
  ends_not Value field why i e exact = null_not why.0 why.1 why.3 i e

module _ (domains : List Domain) (m : Graph) (read : Reader) (exclusive : Exclusive domains m) (total : ℕ) where
  longer : (path other : List ℕ) (fields more : List Placed) (at end : Node) → Extends domains m total [] path fields at other more end → length path ≤ length other
  longer path other fields more at end x = omega (arith, ap length x.path_is, length-append path x.rest)

  not_longer : (path : List ℕ) (fields : List Placed) (at : Node) → IsPartial domains m total path fields at → AllByRecursion (IsReadBy domains m read) fields → (reason : Reason) (field : Option ℕ) → IsReason domains m read (in_message total fields) at reason field → (other : List ℕ) (more : List Placed) (end : Node) → IsPartial domains m total other more end → AllByRecursion (IsReadBy domains m read) more → length other ≤ length path
  not_longer path fields at part reads reason field why other more end p r =
      elim (comparable domains m read exclusive total part.short [] [] Start refl path fields at part.leads other more end p.leads reads r) [
        | inl x ↦ (let none = no_more domains m read exclusive total path fields at part reason field why x.rest x.more end x.leads (all_back (IsReadBy domains m read) fields x.more (subst (λ l. AllByRecursion (IsReadBy domains m read) l) x.fields_are r)) in
            omega (arith, ap length x.path_is, length-append path x.rest, ap length none.0))
        | inr x ↦ longer other path more fields end at x
      ]

  same_end : (reason : Reason) (field : Option ℕ) (s : IsStuck domains m read total reason field) (fields : List Placed) (node : Node) (last : ℕ) → Ends domains m total fields node last → end_of fields ≡ pos (total * 8) → node ≡ s.end → fields ≡ s.fields → ⊥
  same_end reason field s fields node last e exact n f =
      ends_not domains m read exclusive total s.path s.fields s.end s.partial reason field s.why last (subst (λ l. Ends domains m total l s.end last) f (subst (λ x. Ends domains m total fields x last) n e)) (subst (λ l. end_of l ≡ pos (total * 8)) f exact)

  -- a path with a reason to stop is the longest
  pub stuck : (path : List ℕ) (fields : List Placed) (at : Node) → IsPartial domains m total path fields at → AllByRecursion (IsReadBy domains m read) fields → (reason : Reason) (field : Option ℕ) → IsReason domains m read (in_message total fields) at reason field → IsStuck domains m read total reason field
  stuck path fields at part reads reason field why =
      record {
        path = path;
        fields = fields;
        end = at;
        partial = part;
        reads = reads;
        longest = λ other more end p r. not_longer path fields at part reads reason field why other more end p r;
        why = why;
      }

  -- where a reading is stuck, no whole path fits
  pub none_fits : (reason : Reason) (field : Option ℕ) → IsStuck domains m read total reason field → (path : List ℕ) (fields : List Placed) → IsWhole domains m total path fields → AllByRecursion (IsReadBy domains m read) fields → ⊥
  none_fits reason field s path fields w r =
      elim (comparable domains m read exclusive total s.partial.short [] [] Start refl s.path s.fields s.end s.partial.leads w.front fields w.node w.partial.leads s.reads r) [
        | inl x ↦ (let none = no_more domains m read exclusive total s.path s.fields s.end s.partial reason field s.why x.rest x.more w.node x.leads (all_back (IsReadBy domains m read) s.fields x.more (subst (λ l. AllByRecursion (IsReadBy domains m read) l) x.fields_are r)) in
            same_end reason field s fields w.node w.last w.ends w.exact (sym none.2) (x.fields_are ∙ ap (λ l. s.fields ++ l) none.1 ∙ append-nil s.fields))
        | inr x ↦ (let none = ends_here domains m exclusive total w.partial.short w.front fields w.node w.partial.leads w.last w.ends x.rest x.more s.end x.leads in
            same_end reason field s fields w.node w.last w.ends w.exact none.2 (sym (x.fields_are ∙ ap (λ l. fields ++ l) none.1 ∙ append-nil fields)))
      ]
