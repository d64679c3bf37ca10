-- At its point the forms of a path have the values of its fields.
use Rattle.std.proofs.Common.{◌≡◌, refl, sym, ap, subst, ◌∙◌, ℕ, ◌+◌, ◌≤◌, arith, List, [], ◌∷◌, ◌++◌, map, Bool, true, false, if◌then◌else◌, ◌==◌, get_or, ℤ, pos, Option, Some, None, append_assoc, append-nil}
use Rattle.std.specs.Prelude.{slice_get}
use Rattle.std.specs.List.{AllByRecursion, filter}
use Rattle.std.proofs.lemmas.Bool.Decides.{Decides-eqb}
use Rattle.rx_types.specs.Domain.{Domain}
use Rattle.rx_types.specs.Environment.{Environment, Placed, place_of, end_of, in_message}
use Rattle.rx_types.specs.Value.{value_of, is_one}
use Rattle.rx_graph.specs.Graph.{Arrow, Graph, limit_of, type_of}
use Rattle.rx_graph.specs.Cycles.{IsLink}
use Rattle.rx_graph.specs.Paths.{HasNumber, placed_by}
use Rattle.rx_graph.proofs.Facts.{number-le_limit}
use Rattle.rx_forms.specs.Linear.{at, meets}
use Rattle.rx_forms.specs.Normal.{Formed, divisions_in}
use Rattle.rx_forms.specs.Points.{HasPlace, Represents, Matches}
use Rattle.rx_forms.specs.Steps
use Rattle.rx_forms.specs.Steps.{Step, target_field, link_then, end_form, first_division, size_division, size_aspect, first_form, size_form, formed_by, scalars_in, condition_form, conditions_from}
use Rattle.rx_forms.specs.Links.{AreFormable}
use Rattle.rx_forms.proofs.Carries.{CarriesLink, Carries}
use Rattle.rx_forms.specs.Laws.{NumbersWithin}
use Rattle.rx_forms.specs.Placing.{ArePlaced, truths_along, truths_at}
use Rattle.rx_forms.proofs.Conditions.{condition_meets}
use Rattle.rx_forms.proofs.Carrying.{SolvesEach}
use Rattle.rx_forms.proofs.Matching.{represents, end_is, end_matches, matches_on, value_if_any, size_value, number_value}

pub prepend : {X : Type 0} (x y : X) (xs ys : List X) → x ≡ y → xs ≡ ys → x ∷ xs ≡ y ∷ ys
prepend x y xs ys h k = ap (λ z. z ∷ xs) h ∙ ap (λ zs. y ∷ zs) k

module _ (domains : List Domain) (m : Graph) where
  -- ---- links of the message

  abbrev pub AreLinks : List Arrow → Type 0
  AreLinks links = AllByRecursion (λ link. (i : ℕ) × IsLink m i link) links

  link_first : (o : Option Arrow) (i : ℕ) (links : List Arrow) → slice_get m.links i ≡ o → AreLinks links → AreLinks (link_then o links)
  link_first None i links e h = h
  link_first (Some link) i links e h = ((i, e), h)

  pub are_links : (path : List ℕ) → AreLinks (Steps.links_on domains m path)
  are_links [] = tt
  are_links (i ∷ path) = link_first (slice_get m.links i) i (Steps.links_on domains m path) refl (are_links path)

  kept_if : (b : Bool) (link : Arrow) (links : List Arrow) → (i : ℕ) × IsLink m i link → AreLinks links → AreLinks (if b then link ∷ links else links)
  kept_if true link links h k = (h, k)
  kept_if false link links h k = k

  pub links_kept : (p : Arrow → Bool) (links : List Arrow) → AreLinks links → AreLinks (filter p links)
  links_kept p [] h = tt
  links_kept p (link ∷ links) h = kept_if (p link) link (filter p links) h.0 (links_kept p links h.1)

  pub links_both : (links more : List Arrow) → AreLinks links → AreLinks more → AreLinks (links ++ more)
  links_both [] more h k = k
  links_both (link ∷ links) more h k = (h.0, links_both links more h.1 k)

  -- ---- numbers of types

  abbrev pub AreOfTypes : List Placed → Type 0
  AreOfTypes fields = AllByRecursion (λ p. HasNumber (type_of domains m p.field) p.number) fields

  pub types_on : (fields : List Placed) (p : Placed) → AreOfTypes fields → HasNumber (type_of domains m p.field) p.number → AreOfTypes (fields ++ p ∷ [])
  types_on [] p h k = (k, tt)
  types_on (q ∷ fields) p h k = (h.0, types_on fields p h.1 k)

  number_if : (b : Bool) (p q : Placed) (f : ℕ) → (b ≡ true → p.field ≡ f) → p.number ≤ limit_of domains m p.field → q.number ≤ limit_of domains m f → (if b then p else q).number ≤ limit_of domains m f
  number_if true p q f same h k = subst (λ x. p.number ≤ limit_of domains m x) (same refl) h
  number_if false p q f same h k = k

  pub numbers_within : (total : ℕ) (fields : List Placed) → AreOfTypes fields → NumbersWithin (limit_of domains m) (in_message total fields)
  numbers_within total [] h f = omega arith
  numbers_within total (p ∷ ps) h f = number_if (p.field == f) p (place_of f ps) f (Decides-eqb p.field f).0 (number-le_limit (type_of domains m p.field) p.number h.0) (numbers_within total ps h.1 f)

-- ---- links into fields

module _ (domains : List Domain) (m : Graph) (formable : AreFormable (limit_of domains m) m) (point : List ℤ) (total : ℕ) (length_is : get_or point 0 (pos 0) ≡ pos total) where
  -- a link places its target where its forms say
  pub link_values : (before : List Formed) (befores : List Placed) (scalar division : ℕ) (link : Arrow) (p : Placed) → (i : ℕ) × IsLink m i link → Matches point before befores → AreOfTypes domains m befores
      → p ≡ placed_by domains m link (in_message total befores) (target_field link.target) p.number → HasNumber (type_of domains m p.field) p.number
      → CarriesLink domains m point (in_message total befores) (record { before = []; scalar = scalar; division = division; link = link; field = p.field }) p
      → HasPlace point (formed_by (type_of domains m (target_field link.target)) (record { before = before; scalar = scalar; division = division; link = link; field = target_field link.target })) p
      × (meets (condition_form (record { before = before; scalar = scalar; division = division; link = link; field = target_field link.target })) point ≡ is_one (value_of link.condition (in_message total befores)))
  link_values before befores scalar division link p is match types placed number c =
      let f = target_field link.target in
      let e = in_message total befores in
      let type = type_of domains m f in
      let step : Step = record { before = before; scalar = scalar; division = division; link = link; field = f } in
      let is_f : p.field ≡ f = ap (λ (q : Placed). q.field) placed in
      let cs = subst (λ g. CarriesLink domains m point e (record { before = []; scalar = scalar; division = division; link = link; field = g }) p) is_f c in
      let fm = formable is.0 link is.1 in
      let r = represents point total before befores length_is match in
      let fv = value_if_any (limit_of domains m) point before e r link.first (first_division step) (end_form before) (end_of befores) fm.first cs.first (end_matches point before befores match) in
      let sv = size_value (limit_of domains m) point type step e r fm.size fv cs.size in
      let first = fv ∙ sym (ap (λ (q : Placed). q.first) placed) in
      let size = sv ∙ sym (ap (λ (q : Placed). q.size) placed) in (
        record {
          first = first;
          size = size;
          end = end_is point (first_form step) (size_form type step) p.first p.size first size;
          number = number_value point type step p.number (subst (λ g. HasNumber (type_of domains m g) p.number) is_f number) cs.number;
        },
        condition_meets (limit_of domains m) point before e r (numbers_within domains m total befores types) division true link.condition fm.condition cs.condition,
      )

  -- what the forms of these links are worth
  pub record AreWorth (before : List Formed) (befores : List Placed) (scalar division : ℕ) (links : List Arrow) (fields : List Placed) : Type 0 where
    pub firsts : map (λ form. at form point) (map first_form (Steps.steps_from domains m before scalar division links)) ≡ map (λ p. p.first) fields
    pub sizes : map (λ form. at form point) (map (λ step. size_form (type_of domains m step.field) step) (Steps.steps_from domains m before scalar division links)) ≡ map (λ p. p.size) fields
    pub conditions : map (λ form. meets form point) (map condition_form (Steps.steps_from domains m before scalar division links)) ≡ truths_along domains m total befores links fields
    pub matches : Matches point (Steps.formed_after domains m before scalar division links) (befores ++ fields)
    pub types : AreOfTypes domains m (befores ++ fields)

  pub are_worth : (before : List Formed) (befores : List Placed) (scalar division : ℕ) (links : List Arrow) (fields : List Placed) → AreLinks domains m links → Matches point before befores → AreOfTypes domains m befores
      → ArePlaced domains m total befores links fields → Carries domains m point total befores scalar division links fields → AreWorth before befores scalar division links fields
  are_worth before befores scalar division [] [] is match types placed c =
      record { firsts = refl; sizes = refl; conditions = refl; matches = subst (λ ps. Matches point before ps) (sym (append-nil befores)) match; types = subst (AreOfTypes domains m) (sym (append-nil befores)) types }
  are_worth before befores scalar division [] (p ∷ fields) is match types placed c = absurd placed
  are_worth before befores scalar division (link ∷ links) [] is match types placed c = absurd placed
  are_worth before befores scalar division (link ∷ links) (p ∷ fields) is match types placed c =
      let f = target_field link.target in
      let type = type_of domains m f in
      let step : Step = record { before = before; scalar = scalar; division = division; link = link; field = f } in
      let is_f : p.field ≡ f = ap (λ (q : Placed). q.field) placed.0 in
      let v = link_values before befores scalar division link p is.0 match types placed.0 placed.1 c.0 in
      let g = formed_by type step in
      let on = subst (λ x. Carries domains m point total (befores ++ p ∷ []) (scalar + scalars_in (type_of domains m x)) (Steps.next_division domains m (record { before = []; scalar = scalar; division = division; link = link; field = x })) links fields) is_f c.1 in
      let rest = are_worth (before ++ g ∷ []) (befores ++ p ∷ []) (scalar + scalars_in type) (Steps.next_division domains m step) links fields is.1
      (matches_on point before befores g p match (sym is_f) v.0) (types_on domains m befores p types placed.1) placed.2 on in
      record {
        firsts = prepend (at (first_form step) point) p.first _ _ v.0.first rest.firsts;
        sizes = prepend (at (size_form type step) point) p.size _ _ v.0.size rest.sizes;
        conditions = prepend (meets (condition_form step) point) (is_one (value_of link.condition (in_message total befores))) _ _ v.1 rest.conditions;
        matches = subst (λ ps. Matches point (Steps.formed_after domains m before scalar division (link ∷ links)) ps) (append_assoc befores (p ∷ []) fields) rest.matches;
        types = subst (AreOfTypes domains m) (append_assoc befores (p ∷ []) fields) rest.types;
      }

-- ---- links at the end

module _ (domains : List Domain) (m : Graph) (formable : AreFormable (limit_of domains m) m) (point : List ℤ) (fields : List Formed) (e : Environment) (r : Represents point fields e) (numbers : NumbersWithin (limit_of domains m) e) where
  pub ends_meet : (n : ℕ) (links : List Arrow) → AreLinks domains m links → SolvesEach point n links e → map (λ form. meets form point) (conditions_from fields n links) ≡ truths_at e links
  ends_meet n [] is s = refl
  ends_meet n (link ∷ links) is s =
      prepend _ (is_one (value_of link.condition e)) _ _
      (condition_meets (limit_of domains m) point fields e r numbers n true link.condition (formable is.0.0 link is.0.1).condition s.0)
      (ends_meet (n + divisions_in link.condition) links is.1 s.1)
