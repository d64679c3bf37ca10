-- The rows of a link's divisions hold at the point of a path that is partial up to the link's source.
use Rattle.std.proofs.Common.{◌≡◌, refl, sym, ap, subst, ℕ, zero, suc, ◌+◌, ◌≤◌, arith, List, [], ◌∷◌, ◌++◌, map, length, take, true, get_or, ℤ, pos, Some, ◌⊎◌, inl, inr, append_assoc, append-nil}
use Rattle.std.specs.Prelude.{slice_get}
use Rattle.std.specs.List.{AllByRecursion, flat_map}
use Rattle.rx_types.specs.Domain.{Domain}
use Rattle.rx_types.specs.Environment.{Environment, Placed, in_message}
use Rattle.rx_types.specs.Narrow.{StaysWithin}
use Rattle.rx_graph.specs.Graph.{Arrow, Graph, limit_of, type_of}
use Rattle.rx_graph.specs.Cycles.{IsLink}
use Rattle.rx_forms.specs.declared.linear.Linear.{Linear}
use Rattle.rx_forms.specs.Linear.{not_below_zero}
use Rattle.rx_forms.specs.Normal.{Formed, divisions_in}
use Rattle.rx_forms.specs.Divisions.{divisions}
use Rattle.rx_forms.specs.Points.{Represents, Matches}
use Rattle.rx_forms.specs.Steps
use Rattle.rx_forms.specs.Steps.{Step, target_field, size_aspect, first_division, size_division, divisions_any, formed_by, scalars_in, division_forms, rows_from}
use Rattle.rx_forms.specs.Links.{AreFormable, AreNarrow}
use Rattle.rx_forms.proofs.Carries.{CarriesLink, Carries}
use Rattle.rx_forms.specs.Placing.{ArePlaced, rows_each}
use Rattle.rx_forms.proofs.Quotients.{of_parts}
use Rattle.rx_forms.proofs.Rows.{rows_of_condition}
use Rattle.rx_forms.proofs.Carrying.{SolvesEach}
use Rattle.rx_forms.proofs.Matching.{represents, matches_on, rows_of_any, numeric_aspect, narrow_aspect}
use Rattle.rx_forms.proofs.Placing.{AreLinks, AreOfTypes, types_on, link_values}

-- ---- lists

pub in_either : {X : Type 0} (xs ys : List X) (i : ℕ) (x : X) → slice_get (xs ++ ys) i ≡ Some x → (slice_get xs i ≡ Some x) ⊎ ((k : ℕ) × (length xs ≤ i) × (slice_get ys k ≡ Some x))
in_either [] ys i x h = inr (i, omega arith, h)
in_either (y ∷ xs) ys zero x h = inl h
in_either (y ∷ xs) ys (suc i) x h = further (in_either xs ys i x h)
  where
    further : (slice_get xs i ≡ Some x) ⊎ ((k : ℕ) × (length xs ≤ i) × (slice_get ys k ≡ Some x)) → (slice_get xs i ≡ Some x) ⊎ ((k : ℕ) × (length (y ∷ xs) ≤ suc i) × (slice_get ys k ≡ Some x))
    further (inl g) = inl g
    further (inr g) = inr (g.0, omega (arith, g.1), g.2)

same_some : {X : Type 0} (x y : X) → Some x ≡ Some y → x ≡ y
same_some x y h = cc

pub one_of_all : {X : Type 0} (P : X → Type 0) (xs : List X) (i : ℕ) (x : X) → AllByRecursion P xs → slice_get xs i ≡ Some x → P x
one_of_all P [] i x h g = cc
one_of_all P (y ∷ xs) zero x h g = subst P (same_some y x g) h.0
one_of_all P (y ∷ xs) (suc i) x h g = one_of_all P xs i x h.1 g

-- ---- links into fields

module _ (domains : List Domain) (m : Graph) (formable : AreFormable (limit_of domains m) m) (narrow : AreNarrow (limit_of domains m) m) (point : List ℤ) (total : ℕ) (length_is : get_or point 0 (pos 0) ≡ pos total) where
  link_rows : (before : List Formed) (befores : List Placed) (scalar division : ℕ) (link : Arrow) (p : Placed) → (i : ℕ) × IsLink m i link → Matches point before befores → p.field ≡ target_field link.target
      → CarriesLink domains m point (in_message total befores) (record { before = []; scalar = scalar; division = division; link = link; field = p.field }) p → StaysWithin (limit_of domains m) (in_message total befores)
      → not_below_zero point (division_forms (limit_of domains m) (type_of domains m (target_field link.target)) (record { before = before; scalar = scalar; division = division; link = link; field = target_field link.target })) ≡ true
  link_rows before befores scalar division link p is match is_f c w =
      let f = target_field link.target in
      let e = in_message total befores in
      let type = type_of domains m f in
      let step : Step = record { before = before; scalar = scalar; division = division; link = link; field = f } in
      let cs = subst (λ g. CarriesLink domains m point e (record { before = []; scalar = scalar; division = division; link = link; field = g }) p) is_f c in
      let fm = formable is.0 link is.1 in
      let nr = narrow is.0 link is.1 in
      let r = represents point total before befores length_is match in
      of_parts point (divisions (limit_of domains m) before division link.condition) _ (rows_of_condition (limit_of domains m) point before e r w division link.condition fm.condition nr.condition cs.condition)
      (of_parts point (divisions_any (limit_of domains m) before (first_division step) link.first) (divisions_any (limit_of domains m) before (size_division step) (size_aspect type link.size))
      (rows_of_any (limit_of domains m) point before e r w link.first (first_division step) fm.first nr.first cs.first)
      (rows_of_any (limit_of domains m) point before e r w (size_aspect type link.size) (size_division step) (numeric_aspect type link.size fm.size) (narrow_aspect (limit_of domains m) type link.size nr.size) cs.size))

  -- where the fields before the link at i stay within their bounds, its rows hold
  pub rows_at : (before : List Formed) (befores : List Placed) (scalar division : ℕ) (links : List Arrow) (fields : List Placed) (i : ℕ) (rows : List Linear) → AreLinks domains m links → Matches point before befores → AreOfTypes domains m befores
      → ArePlaced domains m total befores links fields → Carries domains m point total befores scalar division links fields → StaysWithin (limit_of domains m) (in_message total (befores ++ take i fields))
      → slice_get (map (λ step. division_forms (limit_of domains m) (type_of domains m step.field) step) (Steps.steps_from domains m before scalar division links)) i ≡ Some rows → not_below_zero point rows ≡ true
  rows_at before befores scalar division [] fields i rows is match types placed c w g = cc
  rows_at before befores scalar division (link ∷ links) [] i rows is match types placed c w g = absurd placed
  rows_at before befores scalar division (link ∷ links) (p ∷ fields) zero rows is match types placed c w g =
      let here = subst (λ ps. StaysWithin (limit_of domains m) (in_message total ps)) (append-nil befores) w in
      subst (λ x. not_below_zero point x ≡ true) (same_some _ rows g) (link_rows before befores scalar division link p is.0 match (ap (λ (q : Placed). q.field) placed.0) c.0 here)
  rows_at before befores scalar division (link ∷ links) (p ∷ fields) (suc i) rows is match types placed c w g =
      let f = target_field link.target in
      let type = type_of domains m f in
      let step : Step = record { before = before; scalar = scalar; division = division; link = link; field = f } in
      let is_f : p.field ≡ f = ap (λ (q : Placed). q.field) placed.0 in
      let v = link_values domains m formable point total length_is before befores scalar division link p is.0 match types placed.0 placed.1 c.0 in
      let on = subst (λ x. Carries domains m point total (befores ++ p ∷ []) (scalar + scalars_in (type_of domains m x)) (Steps.next_division domains m (record { before = []; scalar = scalar; division = division; link = link; field = x })) links fields) is_f c.1 in
      rows_at (before ++ formed_by type step ∷ []) (befores ++ p ∷ []) (scalar + scalars_in type) (Steps.next_division domains m step) links fields i rows is.1
      (matches_on point before befores (formed_by type step) p match (sym is_f) v.0) (types_on domains m befores p types placed.1) placed.2 on
      (subst (λ ps. StaysWithin (limit_of domains m) (in_message total ps)) (sym (append_assoc befores (p ∷ []) (take i fields))) w) g

-- ---- links at the end

module _ (domains : List Domain) (m : Graph) (formable : AreFormable (limit_of domains m) m) (narrow : AreNarrow (limit_of domains m) m) (point : List ℤ) (fields : List Formed) (e : Environment) (r : Represents point fields e) (w : StaysWithin (limit_of domains m) e) where
  pub ends_rows : (n : ℕ) (links : List Arrow) → AreLinks domains m links → SolvesEach point n links e → AllByRecursion (λ rows. not_below_zero point rows ≡ true) (rows_each (limit_of domains m) fields n links)
  ends_rows n [] is s = tt
  ends_rows n (link ∷ links) is s = (
    rows_of_condition (limit_of domains m) point fields e r w n link.condition (formable is.0.0 link is.0.1).condition (narrow is.0.0 link is.0.1).condition s.0,
    ends_rows (n + divisions_in link.condition) links is.1 s.1,
  )

-- the rows of links at the end, one link's after the other
pub rows_joined : (limit : ℕ → ℕ) (fields : List Formed) (n : ℕ) (links : List Arrow) → rows_from limit fields n links ≡ flat_map (λ rows. rows) (rows_each limit fields n links)
rows_joined limit fields n [] = refl
rows_joined limit fields n (link ∷ links) = ap (λ rows. divisions limit fields n link.condition ++ rows) (rows_joined limit fields (n + divisions_in link.condition) links)

pub mapped_joined : {X Y : Type 0} (f : X → List Y) (xs : List X) → flat_map f xs ≡ flat_map (λ ys. ys) (map f xs)
mapped_joined f [] = refl
mapped_joined f (x ∷ xs) = ap (λ ys. f x ++ ys) (mapped_joined f xs)
