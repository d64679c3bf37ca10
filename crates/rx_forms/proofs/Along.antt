-- The rows along a path hold exactly where the path is partial.
use Rattle.std.proofs.Common.{◌≡◌, refl, sym, ap, subst, ◌∙◌, ℕ, ◌+◌, ◌*◌, ◌<◌, ◌^◌, arith, List, [], ◌∷◌, ◌++◌, Bool, true, false, if◌then◌else◌, ◌==◌, get_or, int_le, ℤ, pos, ◌+ℤ◌, ◌≤ℤ◌, Option, Some, None, inl, inr, append_assoc, append-nil, ◌↔◌}
use Rattle.std.specs.Prelude.{slice_get}
use Rattle.std.specs.List.{AllByRecursion}
use Rattle.std.proofs.lemmas.Int.{ints}
use Rattle.std.proofs.lemmas.Bool.Decides.{Decides-eqb, Decides-int_eq}
use Rattle.rx_forms.proofs.Tests.{both, and_true}
use Rattle.rx_types.specs.Domain.{Domain, size_of, IsNumberOf}
use Rattle.rx_types.specs.Environment.{Environment, Placed, place_of, end_of, in_message, IsAmong}
use Rattle.rx_types.specs.Narrow.{StaysWithin}
use Rattle.rx_graph.specs.declared.message.Node.{Node}
use Rattle.rx_graph.specs.declared.message.Node.TheVariants.{Start, At}
use Rattle.rx_graph.specs.Graph.{Arrow, Graph, limit_of, overlay_of, type_of}
use Rattle.rx_graph.specs.Elaborated.{IsElaborated}
use Rattle.rx_graph.specs.Paths.{first_of, size_of_target, HasNumber, Places, Leads}
use Rattle.rx_graph.proofs.Bounded.{stays_within}
use Rattle.rx_graph.proofs.Unique.{leads_on}
use Rattle.rx_forms.specs.declared.linear.Linear.{Linear}
use Rattle.rx_forms.specs.declared.linear.Form.{Form, All}
use Rattle.rx_forms.specs.Linear.{at, term, minus, equal, meets, not_below_zero}
use Rattle.rx_forms.specs.Normal.{Formed, formed_of, bits}
use Rattle.rx_forms.specs.Divisions.{divisions}
use Rattle.rx_forms.specs.Points.{HasPlace, Matches}
use Rattle.rx_forms.specs.Steps
use Rattle.rx_forms.proofs.Carries.{CarriesLink, Carries}
use Rattle.rx_forms.specs.Steps.{Step, target_field, link_then, end_form, form_or, divisions_any, divisions_in_any, size_aspect, first_division, size_division, first_form, size_form, number_form, scalars_in, formed_by, condition_form, division_forms, place_forms, same_form, type_form_any, is_among}
use Rattle.rx_forms.specs.Links.{IsFormable, AreFormable, IsNarrowLink, AreNarrow}
use Rattle.rx_forms.proofs.Sums.{at_minus, at_variable, at_constant}
use Rattle.rx_forms.proofs.Quotients.{from_le, to_le, parts_of, of_parts}
use Rattle.rx_forms.proofs.Conditions.{condition_meets, meets_none, meets_equal}
use Rattle.rx_forms.proofs.Rows.{solves_condition, rows_of_condition}
use Rattle.rx_forms.proofs.Matching.{represents, end_is, end_matches, matches_on, among_forms, among_back, bits_value, value_if_any, solves_any, rows_of_any, numeric_aspect, narrow_aspect, size_value, number_value}

-- ---- the sizes of scalars

module _ (domains : List Domain) (m : Graph) where
  abbrev IsSized : Placed → Type 0
  IsSized p = (t : Domain) → type_of domains m p.field ≡ Some t → p.size ≡ pos (size_of t)

  sized_as : (type : Option Domain) (t : Domain) (link : Arrow) (e : Environment) → type ≡ Some t → size_of_target type link e ≡ pos (size_of t)
  sized_as type t link e h = ap (λ (x : Option Domain). size_of_target x link e) h

  pub leads_sized : (total : ℕ) (before : List Placed) (at : Node) (path : List ℕ) (fields : List Placed) (end : Node) → Leads domains m total before at path fields end → AllByRecursion IsSized fields
  leads_sized total before at [] [] end h = tt
  leads_sized total before at [] (p ∷ fields) end h = absurd h
  leads_sized total before at (i ∷ path) [] end h = absurd h
  leads_sized total before at (i ∷ path) (p ∷ fields) end h =
      ((λ t e. ap (λ (q : Placed). q.size) h.3.place ∙ sized_as (type_of domains m p.field) t h.0 (in_message total before) e), leads_sized total (before ++ p ∷ []) (At p.field) path fields end h.4)

  sized_if : (b : Bool) (p q : Placed) (x : ℕ) (t : Domain) → (b ≡ true → p.size ≡ pos (size_of t)) → (b ≡ false → q.size ≡ pos (size_of t)) → (if b then p else q).size ≡ pos (size_of t)
  sized_if true p q x t h k = h refl
  sized_if false p q x t h k = k refl

  pub sized_at : (fields : List Placed) (x : ℕ) (t : Domain) → AllByRecursion IsSized fields → IsAmong x fields → type_of domains m x ≡ Some t → (place_of x fields).size ≡ pos (size_of t)
  sized_at [] x t h a e = absurd a
  sized_at (p ∷ ps) x t h a e =
      sized_if (p.field == x) p (place_of x ps) x t
      (λ b. h.0 t (ap (λ (f : ℕ). type_of domains m f) ((Decides-eqb p.field x).0 b) ∙ e))
      (λ b. sized_at ps x t h.1 (not_first b a) e)
    where
      not_first : (p.field == x) ≡ false → IsAmong x (p ∷ ps) → IsAmong x ps
      not_first b (inl same) = absurd (clash (sym b ∙ (Decides-eqb p.field x).1 same))
        where
          clash : false ≡ true → ⊥
          clash h = cc
      not_first b (inr r) = r

-- ---- one link

module _ (domains : List Domain) (m : Graph) (el : IsElaborated domains m) (formable : AreFormable (limit_of domains m) m) (narrow : AreNarrow (limit_of domains m) m) (type_form : Domain → ℕ → Form) (point : List ℤ)
    (typed : (t : Domain) (v : ℕ) → (meets (type_form t v) point ≡ true) ↔ ((n : ℕ) × (get_or point v (pos 0) ≡ pos n) × IsNumberOf t n))
    (total : ℕ) (short : total < 2 ^ 24) (length_is : get_or point 0 (pos 0) ≡ pos total) where
  -- the number that the point has for the target
  has_number : (type : Option Domain) (step : Step) → meets (type_form_any type_form type step) point ≡ true → (n : ℕ) × (at (number_form type step) point ≡ pos n) × HasNumber type n
  has_number (Some t) step h = let n = (typed t step.scalar).0 h in (n.0, at_variable step.scalar point ∙ n.1, n.2)
  has_number None step h = (0, at_constant (pos 0) point, refl)

  within : (first size : Linear) (x y b : ℤ) → at first point ≡ x → at size point ≡ y → at bits point ≡ b → not_below_zero point (first ∷ size ∷ minus (minus bits first) size ∷ []) ≡ true → (pos 0 ≤ℤ x) × (pos 0 ≤ℤ y) × ((x +ℤ y) ≤ℤ b)
  within first size x y b ex ey eb h =
      let h1 = both {a = int_le (pos 0) (at first point)} h in
      let h2 = both {a = int_le (pos 0) (at size point)} h1.1 in
      let h3 = both {a = int_le (pos 0) (at (minus (minus bits first) size) point)} h2.1 in
      let a = from_le (pos 0) (at first point) h1.0 in
      let c = from_le (pos 0) (at size point) h2.0 in
      let d = from_le (pos 0) (at (minus (minus bits first) size) point) h3.0 in
      let e1 = at_minus (minus bits first) size point in
      let e2 = at_minus bits first point in
      (omega (arith, ints), omega (arith, ints), omega (arith, ints))

  abbrev Sized : List Placed → Type 0
  Sized = AllByRecursion (IsSized domains m)

  same_sizes : (a b : ℕ) (x y : ℤ) → x ≡ pos a → y ≡ pos b → y ≡ x → a ≡ b
  same_sizes a b x y p q r = omega (arith, ints, p, q, r)

  overlay_is : (step : Step) (x : ℕ) (s t : Domain) → overlay_of (slice_get m.fields step.field) ≡ Some x → type_of domains m step.field ≡ Some s → type_of domains m x ≡ Some t → is_among x step.before ≡ true → size_of s ≡ size_of t
      → Steps.overlay_form domains m step ≡ equal (term (pos 1) step.scalar (pos 0)) (formed_of x step.before).number
  overlay_is step x s t ov ts tx a same =
      let v = term (pos 1) step.scalar (pos 0) in let g = (formed_of x step.before).number in
      ap (λ (o : Option ℕ). Steps.overlay_form_any domains m o step) ov
      ∙ ap (λ (y : Option Domain). same_form y (type_of domains m x) (is_among x step.before) v g) ts
      ∙ ap (λ (y : Option Domain). same_form (Some s) y (is_among x step.before) v g) tx
      ∙ ap (λ (b : Bool). same_form (Some s) (Some t) b v g) a
      ∙ ap (λ (b : Bool). if b then equal v g else All []) ((Decides-eqb (size_of s) (size_of t)).1 same)

  scalar_at : (type : Option Domain) (s : Domain) (step : Step) (n : ℕ) → type ≡ Some s → at (number_form type step) point ≡ pos n → at (term (pos 1) step.scalar (pos 0)) point ≡ pos n
  scalar_at type s step n e h = ap (λ (y : Option Domain). at (number_form y step) point) (sym e) ∙ h

  same_numbers : (n k : ℕ) (x y : ℤ) → x ≡ pos n → y ≡ pos k → x ≡ y → n ≡ k
  same_numbers n k x y p q r = omega (arith, ints, p, q, r)

  equal_from : (f g : Linear) → meets (equal f g) point ≡ true → at f point ≡ at g point
  equal_from f g h = (Decides-int_eq (at f point) (at g point)).0 (sym (meets_equal point f g) ∙ h)

  -- where the rows of a link hold, the link places its target
  pub placed_by_rows : (step : Step) (befores : List Placed) → Matches point step.before befores → StaysWithin (limit_of domains m) (in_message total befores) → Sized befores → IsFormable (limit_of domains m) step.link → step.link.target ≡ At step.field → Steps.HoldsAt domains m (limit_of domains m) type_form point step
      → (p : Placed) × Places domains m step.link (in_message total befores) p × (step.field ≡ p.field) × HasPlace point (formed_by (type_of domains m step.field) step) p
  placed_by_rows step befores match w sized fm target h =
      let e = in_message total befores in
      let r = represents point total step.before befores length_is match in
      let type = type_of domains m step.field in
      let d0 = parts_of point (divisions (limit_of domains m) step.before step.division step.link.condition) _ h.divided in
      let d1 = parts_of point (divisions_any (limit_of domains m) step.before (first_division step) step.link.first) (divisions_any (limit_of domains m) step.before (size_division step) (size_aspect type step.link.size)) d0.1 in
      let sc = solves_condition (limit_of domains m) point step.before e r step.division step.link.condition fm.condition d0.0 in
      let sf = solves_any (limit_of domains m) point step.before e r step.link.first (first_division step) fm.first d1.0 in
      let ss = solves_any (limit_of domains m) point step.before e r (size_aspect type step.link.size) (size_division step) (numeric_aspect type step.link.size fm.size) d1.1 in
      let ct = condition_meets (limit_of domains m) point step.before e r (λ f. (w.fields f).number) step.division true step.link.condition fm.condition sc in
      let fv = value_if_any (limit_of domains m) point step.before e r step.link.first (first_division step) (end_form step.before) (end_of befores) fm.first sf (end_matches point step.before befores match) in
      let sv = size_value (limit_of domains m) point type step e r fm.size fv ss in
      let n = has_number type step h.typed in
      let b = within (first_form step) (size_form type step) (first_of step.link e) (size_of_target type step.link e) (pos (total * 8)) fv sv (bits_value point total length_is) h.placed in (
        record { field = step.field; first = first_of step.link e; size = size_of_target type step.link e; number = n.0 },
        record {
          target = target;
          taken = sym ct ∙ h.taken;
          place = refl;
          within = record { begins = b.0; long = b.1; ends = b.2 };
          number = n.2;
          agrees = λ x s t ov ts tx a same.
              let sizes = same_sizes (size_of s) (size_of t) (size_of_target type step.link e) (place_of x befores).size (sized_as domains m type s step.link e ts) (sized_at domains m befores x t sized a tx) same in
              let form = overlay_is step x s t ov ts tx (among_back point x step.before befores match a) sizes in
              same_numbers n.0 (place_of x befores).number (at (term (pos 1) step.scalar (pos 0)) point) (at (formed_of x step.before).number point) (scalar_at type s step n.0 ts n.1) (r.places x).number
              (equal_from (term (pos 1) step.scalar (pos 0)) (formed_of x step.before).number (ap (λ (f : Form). meets f point) (sym form) ∙ h.overlaid));
        },
        refl,
        record { first = fv; size = sv; end = end_is point (first_form step) (size_form type step) (first_of step.link e) (size_of_target type step.link e) fv sv; number = n.1 },
      )

  -- where the rows of all links hold, the path is partial
  pub rows_lead : (path front : List ℕ) (before : List Formed) (befores : List Placed) (scalar division : ℕ) (at end : Node) → Steps.LeadsThrough domains m at path end → Matches point before befores → Leads domains m total [] Start front befores at
      → AllByRecursion (Steps.HoldsAt domains m (limit_of domains m) type_form point) (Steps.steps_from domains m before scalar division (Steps.links_on domains m path))
      → (fields : List Placed) × Leads domains m total befores at path fields end × Matches point (Steps.formed_after domains m before scalar division (Steps.links_on domains m path)) (befores ++ fields)
  rows_lead [] front before befores scalar division at end lt match lead h = ([], lt, subst (λ l. Matches point before l) (sym (append-nil befores)) match)
  rows_lead (i ∷ path) front before befores scalar division at end lt match lead h =
      let link = lt.0 in
      let f = target_field link.target in
      let step : Step = record { before = before; scalar = scalar; division = division; link = link; field = f } in
      let hs = subst (λ o. AllByRecursion (Steps.HoldsAt domains m (limit_of domains m) type_form point) (Steps.steps_from domains m before scalar division (link_then o (Steps.links_on domains m path)))) lt.2 h in
      let is_f : f ≡ lt.1 = ap (λ (n : Node). target_field n) lt.4 in
      let w = stays_within domains m el total front befores at (record { short = short; leads = lead }) in
      let sized = leads_sized domains m total [] Start front befores at lead in
      let p = placed_by_rows step befores match w sized (formable i link lt.2) (lt.4 ∙ ap At (sym is_f)) hs.0 in
      let on = leads_on domains m total [] Start front befores at (i ∷ []) (p.0 ∷ []) (At p.0.field) lead (link, lt.2, lt.3, p.1, refl) in
      let rest = rows_lead path (front ++ i ∷ []) (before ++ formed_by (type_of domains m f) step ∷ []) (befores ++ p.0 ∷ []) (scalar + scalars_in (type_of domains m f)) (Steps.next_division domains m step) (At p.0.field) end
      (subst (λ g. Steps.LeadsThrough domains m (At g) path end) (sym is_f ∙ p.2) lt.5)
      (matches_on point before befores (formed_by (type_of domains m f) step) p.0 match p.2 p.3) on hs.1 in (
        p.0 ∷ rest.0,
        (link, lt.2, lt.3, p.1, rest.1),
        subst (λ o. Matches point (Steps.formed_after domains m before scalar division (link_then o (Steps.links_on domains m path))) (befores ++ p.0 ∷ rest.0)) (sym lt.2)
            (subst (λ l. Matches point (Steps.formed_after domains m (before ++ formed_by (type_of domains m f) step ∷ []) (scalar + scalars_in (type_of domains m f)) (Steps.next_division domains m step) (Steps.links_on domains m path)) l) (append_assoc befores (p.0 ∷ []) rest.0) rest.2),
      )

  -- ---- back: from a partial path to its rows

  within_back : (first size : Linear) (x y b : ℤ) → at first point ≡ x → at size point ≡ y → at bits point ≡ b → pos 0 ≤ℤ x → pos 0 ≤ℤ y → (x +ℤ y) ≤ℤ b → not_below_zero point (first ∷ size ∷ minus (minus bits first) size ∷ []) ≡ true
  within_back first size x y b ex ey eb hx hy hb =
      let e1 = at_minus (minus bits first) size point in
      let e2 = at_minus bits first point in
      and_true (to_le (pos 0) (at first point) (omega (arith, ints)))
      (and_true (to_le (pos 0) (at size point) (omega (arith, ints)))
      (and_true (to_le (pos 0) (at (minus (minus bits first) size) point) (omega (arith, ints))) refl))

  typed_back : (type : Option Domain) (step : Step) (n : ℕ) → HasNumber type n → ((t : Domain) → type ≡ Some t → get_or point step.scalar (pos 0) ≡ pos n) → meets (type_form_any type_form type step) point ≡ true
  typed_back (Some t) step n h c = (typed t step.scalar).1 (n, c t refl, h)
  typed_back None step n h c = meets_none point

  equal_to : (f g : Linear) → at f point ≡ at g point → meets (equal f g) point ≡ true
  equal_to f g h = meets_equal point f g ∙ (Decides-int_eq (at f point) (at g point)).1 h

  equal_if : (b : Bool) (f g : Linear) → (b ≡ true → at f point ≡ at g point) → meets (if b then equal f g else All []) point ≡ true
  equal_if true f g h = equal_to f g (h refl)
  equal_if false f g h = meets_none point

  same_form_back : (s t : Option Domain) (a : Bool) (f g : Linear) → ((x y : Domain) → s ≡ Some x → t ≡ Some y → a ≡ true → size_of x ≡ size_of y → at f point ≡ at g point) → meets (same_form s t a f g) point ≡ true
  same_form_back (Some s) (Some t) true f g h = equal_if (size_of s == size_of t) f g (λ b. h s t refl refl refl ((Decides-eqb (size_of s) (size_of t)).0 b))
  same_form_back (Some s) (Some t) false f g h = meets_none point
  same_form_back (Some s) None a f g h = meets_none point
  same_form_back None t a f g h = meets_none point

  overlay_back : (o : Option ℕ) (step : Step) → ((x : ℕ) (s t : Domain) → o ≡ Some x → type_of domains m step.field ≡ Some s → type_of domains m x ≡ Some t → is_among x step.before ≡ true → size_of s ≡ size_of t → at (term (pos 1) step.scalar (pos 0)) point ≡ at (formed_of x step.before).number point) → meets (Steps.overlay_form_any domains m o step) point ≡ true
  overlay_back None step h = meets_none point
  overlay_back (Some x) step h = same_form_back (type_of domains m step.field) (type_of domains m x) (is_among x step.before) (term (pos 1) step.scalar (pos 0)) (formed_of x step.before).number (λ s t es et a same. h x s t refl es et a same)

  sizes_alike : (a b : ℕ) (x y : ℤ) → a ≡ b → x ≡ pos a → y ≡ pos b → y ≡ x
  sizes_alike a b x y e p q = omega (arith, ints, e, p, q)

  numbers_alike : (n k : ℕ) (x y : ℤ) → n ≡ k → x ≡ pos n → y ≡ pos k → x ≡ y
  numbers_alike n k x y e p q = omega (arith, ints, e, p, q)

  -- where a link places its target, and the point has its number and quotients, the rows of the link hold
  pub rows_of_placed : (before : List Formed) (befores : List Placed) (scalar division : ℕ) (link : Arrow) (p : Placed) → Matches point before befores → StaysWithin (limit_of domains m) (in_message total befores) → Sized befores → IsFormable (limit_of domains m) link → IsNarrowLink (limit_of domains m) link → Places domains m link (in_message total befores) p
      → CarriesLink domains m point (in_message total befores) (record { before = []; scalar = scalar; division = division; link = link; field = p.field }) p
      → Steps.HoldsAt domains m (limit_of domains m) type_form point (record { before = before; scalar = scalar; division = division; link = link; field = p.field })
      × HasPlace point (formed_by (type_of domains m p.field) (record { before = before; scalar = scalar; division = division; link = link; field = p.field })) p
  rows_of_placed before befores scalar division link p match w sized fm nr pl c =
      let step : Step = record { before = before; scalar = scalar; division = division; link = link; field = p.field } in
      let e = in_message total befores in
      let r = represents point total before befores length_is match in
      let type = type_of domains m p.field in
      let ct = condition_meets (limit_of domains m) point before e r (λ f. (w.fields f).number) division true link.condition fm.condition c.condition in
      let fv = value_if_any (limit_of domains m) point before e r link.first (first_division step) (end_form before) (end_of befores) fm.first c.first (end_matches point before befores match) in
      let sv = size_value (limit_of domains m) point type step e r fm.size fv c.size in
      let pf : at (first_form step) point ≡ p.first = fv ∙ sym (ap (λ (q : Placed). q.first) pl.place) in
      let ps : at (size_form type step) point ≡ p.size = sv ∙ sym (ap (λ (q : Placed). q.size) pl.place) in
      let pn = number_value point type step p.number pl.number c.number in (
        record {
          divided = of_parts point (divisions (limit_of domains m) before division link.condition) _ (rows_of_condition (limit_of domains m) point before e r w division link.condition fm.condition nr.condition c.condition)
              (of_parts point (divisions_any (limit_of domains m) before (first_division step) link.first) (divisions_any (limit_of domains m) before (size_division step) (size_aspect type link.size))
              (rows_of_any (limit_of domains m) point before e r w link.first (first_division step) fm.first nr.first c.first)
              (rows_of_any (limit_of domains m) point before e r w (size_aspect type link.size) (size_division step) (numeric_aspect type link.size fm.size) (narrow_aspect (limit_of domains m) type link.size nr.size) c.size));
          taken = ct ∙ pl.taken;
          placed = within_back (first_form step) (size_form type step) p.first p.size (pos (total * 8)) pf ps (bits_value point total length_is) pl.within.begins pl.within.long pl.within.ends;
          typed = typed_back type step p.number pl.number c.number;
          overlaid = overlay_back (overlay_of (slice_get m.fields p.field)) step (λ x s t ov ts tx a same.
              let am = among_forms point x before befores match a in
              let sizes = sizes_alike (size_of s) (size_of t) p.size (place_of x befores).size same (ap (λ (q : Placed). q.size) pl.place ∙ sized_as domains m type s link e ts) (sized_at domains m befores x t sized am tx) in
              numbers_alike p.number (place_of x befores).number (at (term (pos 1) scalar (pos 0)) point) (at (formed_of x before).number point) (pl.agrees x s t ov ts tx am sizes) (scalar_at type s step p.number ts pn) (r.places x).number);
        },
        record { first = pf; size = ps; end = end_is point (first_form step) (size_form type step) p.first p.size pf ps; number = pn },
      )

  -- the steps and the last forms, where the first link's field is g
  abbrev GoesOn : List Formed → ℕ → ℕ → Arrow → List Arrow → ℕ → List Step × List Formed
  GoesOn before scalar division link links g =
      let step : Step = record { before = before; scalar = scalar; division = division; link = link; field = g } in (
        step ∷ Steps.steps_from domains m (before ++ formed_by (type_of domains m g) step ∷ []) (scalar + scalars_in (type_of domains m g)) (Steps.next_division domains m step) links,
        Steps.formed_after domains m (before ++ formed_by (type_of domains m g) step ∷ []) (scalar + scalars_in (type_of domains m g)) (Steps.next_division domains m step) links,
      )

  -- where the path is partial, and the point has its numbers and quotients, the rows of all links hold
  pub lead_rows : (path front : List ℕ) (before : List Formed) (befores fields : List Placed) (scalar division : ℕ) (at end : Node) → Matches point before befores → Leads domains m total [] Start front befores at → Leads domains m total befores at path fields end
      → Carries domains m point total befores scalar division (Steps.links_on domains m path) fields
      → AllByRecursion (Steps.HoldsAt domains m (limit_of domains m) type_form point) (Steps.steps_from domains m before scalar division (Steps.links_on domains m path))
      × Matches point (Steps.formed_after domains m before scalar division (Steps.links_on domains m path)) (befores ++ fields)
  lead_rows [] front before befores [] scalar division at end match lead h c = (tt, subst (λ l. Matches point before l) (sym (append-nil befores)) match)
  lead_rows [] front before befores (p ∷ fields) scalar division at end match lead h c = absurd h
  lead_rows (i ∷ path) front before befores [] scalar division at end match lead h c = absurd h
  lead_rows (i ∷ path) front before befores (p ∷ fields) scalar division at end match lead h c =
      let link = h.0 in
      let links = Steps.links_on domains m path in
      let cs = subst (λ o. Carries domains m point total befores scalar division (link_then o links) (p ∷ fields)) h.1 c in
      let is_f : p.field ≡ target_field link.target = sym (ap (λ (n : Node). target_field n) h.3.target) in
      let w = stays_within domains m el total front befores at (record { short = short; leads = lead }) in
      let sized = leads_sized domains m total [] Start front befores at lead in
      let one = rows_of_placed before befores scalar division link p match w sized (formable i link h.1) (narrow i link h.1) h.3 cs.0 in
      let step : Step = record { before = before; scalar = scalar; division = division; link = link; field = p.field } in
      let on = leads_on domains m total [] Start front befores at (i ∷ []) (p ∷ []) (At p.field) lead (link, h.1, h.2, h.3, refl) in
      let rest = lead_rows path (front ++ i ∷ []) (before ++ formed_by (type_of domains m p.field) step ∷ []) (befores ++ p ∷ []) fields (scalar + scalars_in (type_of domains m p.field)) (Steps.next_division domains m step) (At p.field) end
      (matches_on point before befores (formed_by (type_of domains m p.field) step) p match refl one.1) on h.4 cs.1 in
      let all = subst (λ g. AllByRecursion (Steps.HoldsAt domains m (limit_of domains m) type_form point) (GoesOn before scalar division link links g).0 × Matches point (GoesOn before scalar division link links g).1 (befores ++ p ∷ fields)) is_f
      ((one.0, rest.0), subst (λ l. Matches point (GoesOn before scalar division link links p.field).1 l) (append_assoc befores (p ∷ []) fields) rest.1) in (
        subst (λ o. AllByRecursion (Steps.HoldsAt domains m (limit_of domains m) type_form point) (Steps.steps_from domains m before scalar division (link_then o links))) (sym h.1) all.0,
        subst (λ o. Matches point (Steps.formed_after domains m before scalar division (link_then o links)) (befores ++ p ∷ fields)) (sym h.1) all.1,
      )
