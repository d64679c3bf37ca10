-- The rows of a path's divisions leave its quotients no choice.
use Rattle.std.proofs.Common.{◌≡◌, sym, ap, subst, ◌∙◌, ℕ, ◌+◌, ◌<◌, ◌≤◌, arith, List, [], ◌∷◌, ◌++◌, length, Bool, true, false, if◌then◌else◌, get_or, ℤ, pos, Option, Some, None, ◌⊎◌, inl, inr}
use Rattle.std.specs.List.{flat_map}
use Rattle.std.specs.Int.{int_div_euclid}
use Rattle.std.proofs.lemmas.Bool.{cases_lt}
use Rattle.rx_types.specs.declared.expr.Operator.TheVariants as op
use Rattle.rx_types.specs.Tree.{Tree, Number, Truth, Field, First, Last, Size, Total, Neg, Not, Binary}
use Rattle.rx_types.specs.Domain.{Domain}
use Rattle.rx_types.specs.Static.{is_static, static_value}
use Rattle.rx_types.specs.Environment.{Environment, Placed, in_message}
use Rattle.rx_types.specs.Value.{value_of}
use Rattle.rx_graph.specs.Graph.{Arrow, Graph, limit_of, type_of}
use Rattle.rx_graph.specs.Cycles.{IsLink}
use Rattle.rx_forms.specs.Linear.{not_below_zero}
use Rattle.rx_forms.specs.Normal.{Formed, divisions_in}
use Rattle.rx_forms.specs.Divisions.{divisions}
use Rattle.rx_forms.specs.Points.{Represents, Solves, SolvesAny, Chosen, Matches, number_if}
use Rattle.rx_forms.specs.Steps
use Rattle.rx_forms.specs.Steps.{Step, target_field, size_aspect, first_division, size_division, divisions_in_any, divisions_any, formed_by, scalars_in, division_forms, past, rows_from}
use Rattle.rx_forms.specs.Links.{AreFormable}
use Rattle.rx_forms.specs.Points
use Rattle.rx_forms.proofs.Carries.{CarriesLink, Carries}
use Rattle.rx_forms.specs.Placing.{ArePlaced}
use Rattle.rx_forms.proofs.Extension.{two, right_first}
use Rattle.rx_forms.proofs.Quotients.{parts_of}
use Rattle.rx_forms.proofs.Rows.{solves_condition}
use Rattle.rx_forms.proofs.Carrying.{SolvesEach, if_count, number_at}
use Rattle.rx_forms.proofs.Matching.{represents, matches_on, solves_any, numeric_aspect}
use Rattle.rx_forms.proofs.Placing.{AreLinks, AreOfTypes, types_on, link_values}

-- ---- two points that have the same quotients

module _ (p q : List ℤ) where
  abbrev pub Same : ℕ → Type 0
  Same v = get_or p v (pos 0) ≡ get_or q v (pos 0)

  -- a variable stands before a place, or not
  pub by_place : (x v : ℕ) → (v < x → Same v) → (x ≤ v → Same v) → Same v
  by_place x v left right = by_side (cases_lt v x)
    where
      by_side : (v < x) ⊎ (x ≤ v) → Same v
      by_side (inl h) = left h
      by_side (inr h) = right h

  of_two : (n d k v : ℕ) → n ≤ v → v < n + (d + k) → (v < n + d → Same v) → (n + d ≤ v → v < n + d + k → Same v) → Same v
  of_two n d k v low high left right = by_place (n + d) v left (λ h. right h (omega (arith, high)))

  last_same : (n d v : ℕ) (z : ℤ) → n ≤ v → v < n + (d + 1) → (v < n + d → Same v) → get_or p (n + d) (pos 0) ≡ z → get_or q (n + d) (pos 0) ≡ z → Same v
  last_same n d v z low high left a b = of_two n d 1 v low high left (λ h k. subst Same (only n d v h k) (a ∙ sym b))
    where
      only : (n d v : ℕ) → n + d ≤ v → v < n + d + 1 → n + d ≡ v
      only n d v h k = omega (arith, h, k)

  chosen_same : (t : Bool) (n d k v : ℕ) (P Q R S : Type 0) → Chosen t P Q → Chosen t R S → v < n + (if t then d else k) → (P → R → v < n + d → Same v) → (Q → S → v < n + k → Same v) → Same v
  chosen_same true n d k v P Q R S g h high left right = left g h high
  chosen_same false n d k v P Q R S g h high left right = right g h high

  pub solved_same : (x : Tree) (e : Environment) (n v : ℕ) → Solves p n x e → Solves q n x e → n ≤ v → v < n + divisions_in x → Same v
  solved_same (Number k) e n v g h low high = absurd (omega (arith, low, high))
  solved_same (Truth b) e n v g h low high = absurd (omega (arith, low, high))
  solved_same (Field f) e n v g h low high = absurd (omega (arith, low, high))
  solved_same (First f) e n v g h low high = absurd (omega (arith, low, high))
  solved_same (Last f) e n v g h low high = absurd (omega (arith, low, high))
  solved_same (Size f) e n v g h low high = absurd (omega (arith, low, high))
  solved_same Total e n v g h low high = absurd (omega (arith, low, high))
  solved_same (Neg a) e n v g h low high = solved_same a e n v g h low high
  solved_same (Not a) e n v g h low high = solved_same a e n v g h low high
  solved_same (Binary op.Mul a b) e n v g h low high =
      chosen_same (is_static a) n (divisions_in b) (divisions_in a) v (Solves p n b e) (Solves p n a e) (Solves q n b e) (Solves q n a e) g h high (λ s t k. solved_same b e n v s t low k) (λ s t k. solved_same a e n v s t low k)
  solved_same (Binary op.Div a b) e n v g h low high = last_same n (divisions_in a) v (int_div_euclid (value_of a e) (static_value b)) low high (λ k. solved_same a e n v g.0 h.0 low k) g.1 h.1
  solved_same (Binary op.Mod a b) e n v g h low high = last_same n (divisions_in a) v (int_div_euclid (value_of a e) (static_value b)) low high (λ k. solved_same a e n v g.0 h.0 low k) g.1 h.1
  solved_same (Binary op.Add a b) e n v g h low high = of_two n (divisions_in a) (divisions_in b) v low high (λ k. solved_same a e n v g.0 h.0 low k) (λ l k. solved_same b e (n + divisions_in a) v g.1 h.1 l k)
  solved_same (Binary op.Sub a b) e n v g h low high = of_two n (divisions_in a) (divisions_in b) v low high (λ k. solved_same a e n v g.0 h.0 low k) (λ l k. solved_same b e (n + divisions_in a) v g.1 h.1 l k)
  solved_same (Binary op.And a b) e n v g h low high = of_two n (divisions_in a) (divisions_in b) v low high (λ k. solved_same a e n v g.0 h.0 low k) (λ l k. solved_same b e (n + divisions_in a) v g.1 h.1 l k)
  solved_same (Binary op.Or a b) e n v g h low high = of_two n (divisions_in a) (divisions_in b) v low high (λ k. solved_same a e n v g.0 h.0 low k) (λ l k. solved_same b e (n + divisions_in a) v g.1 h.1 l k)
  solved_same (Binary op.Equal a b) e n v g h low high = of_two n (divisions_in a) (divisions_in b) v low high (λ k. solved_same a e n v g.0 h.0 low k) (λ l k. solved_same b e (n + divisions_in a) v g.1 h.1 l k)
  solved_same (Binary op.NotEqual a b) e n v g h low high = of_two n (divisions_in a) (divisions_in b) v low high (λ k. solved_same a e n v g.0 h.0 low k) (λ l k. solved_same b e (n + divisions_in a) v g.1 h.1 l k)
  solved_same (Binary op.Less a b) e n v g h low high = of_two n (divisions_in a) (divisions_in b) v low high (λ k. solved_same a e n v g.0 h.0 low k) (λ l k. solved_same b e (n + divisions_in a) v g.1 h.1 l k)
  solved_same (Binary op.LessEqual a b) e n v g h low high = of_two n (divisions_in a) (divisions_in b) v low high (λ k. solved_same a e n v g.0 h.0 low k) (λ l k. solved_same b e (n + divisions_in a) v g.1 h.1 l k)
  solved_same (Binary op.Greater a b) e n v g h low high = of_two n (divisions_in a) (divisions_in b) v low high (λ k. solved_same a e n v g.0 h.0 low k) (λ l k. solved_same b e (n + divisions_in a) v g.1 h.1 l k)
  solved_same (Binary op.GreaterEqual a b) e n v g h low high = of_two n (divisions_in a) (divisions_in b) v low high (λ k. solved_same a e n v g.0 h.0 low k) (λ l k. solved_same b e (n + divisions_in a) v g.1 h.1 l k)

  any_same : (x : Option Tree) (e : Environment) (n v : ℕ) → SolvesAny p n x e → SolvesAny q n x e → n ≤ v → v < n + divisions_in_any x → Same v
  any_same None e n v g h low high = absurd (omega (arith, low, high))
  any_same (Some x) e n v g h low high = solved_same x e n v g h low high

  pub each_same : (links : List Arrow) (e : Environment) (n v : ℕ) → SolvesEach p n links e → SolvesEach q n links e → n ≤ v → v < past n links → Same v
  each_same [] e n v g h low high = absurd (omega (arith, low, high))
  each_same (link ∷ links) e n v g h low high = by_place (n + divisions_in link.condition) v (λ k. solved_same link.condition e n v g.0 h.0 low k) (λ k. each_same links e (n + divisions_in link.condition) v g.1 h.1 k high)

  module _ (domains : List Domain) (m : Graph) (total : ℕ) where
    pub carried_same : (links : List Arrow) (fields before : List Placed) (scalar division v : ℕ) → ArePlaced domains m total before links fields → Carries domains m p total before scalar division links fields → Carries domains m q total before scalar division links fields
        → division ≤ v → v < Steps.division_after domains m division links → Same v
    carried_same [] fields before scalar division v placed g h low high = absurd (omega (arith, low, high))
    carried_same (link ∷ links) [] before scalar division v placed g h low high = absurd placed
    carried_same (link ∷ links) (r ∷ fields) before scalar division v placed g h low high =
        let e = in_message total before in
        let aspect = size_aspect (type_of domains m r.field) link.size in
        let first = division + divisions_in link.condition in
        let size = first + divisions_in_any link.first in
        let next = size + divisions_in_any aspect in
        let end : ℕ → ℕ = λ f. Steps.division_after domains m (Steps.next_division domains m (record { before = []; scalar = 0; division = division; link = link; field = f })) links in
        by_place first v (λ k. solved_same link.condition e division v g.0.condition h.0.condition low k) (λ l.
        by_place size v (λ k. any_same link.first e first v g.0.first h.0.first l k) (λ n.
        by_place next v (λ k. any_same aspect e size v g.0.size h.0.size n k) (λ k.
        carried_same links fields (before ++ r ∷ []) (scalar + scalars_in (type_of domains m r.field)) next v placed.2 g.1 h.1 k (subst (λ f. v < end f) (sym (ap (λ (s : Placed). s.field) placed.0)) high))))

-- ---- the rows make a point carry the quotients

module _ (domains : List Domain) (m : Graph) (formable : AreFormable (limit_of domains m) m) (point : List ℤ) (total : ℕ) (length_is : get_or point 0 (pos 0) ≡ pos total) where
  link_carried : (before : List Formed) (befores : List Placed) (scalar division : ℕ) (link : Arrow) (p : Placed) → (i : ℕ) × IsLink m i link → Matches point before befores → p.field ≡ target_field link.target
      → ((t : Domain) → type_of domains m p.field ≡ Some t → get_or point scalar (pos 0) ≡ pos p.number)
      → not_below_zero point (division_forms (limit_of domains m) (type_of domains m (target_field link.target)) (record { before = before; scalar = scalar; division = division; link = link; field = target_field link.target })) ≡ true
      → CarriesLink domains m point (in_message total befores) (record { before = []; scalar = scalar; division = division; link = link; field = p.field }) p
  link_carried before befores scalar division link p is match is_f number rows =
      let f = target_field link.target in
      let e = in_message total befores in
      let type = type_of domains m f in
      let step : Step = record { before = before; scalar = scalar; division = division; link = link; field = f } in
      let fm = formable is.0 link is.1 in
      let r = represents point total before befores length_is match in
      let d0 = parts_of point (divisions (limit_of domains m) before division link.condition) _ rows in
      let d1 = parts_of point (divisions_any (limit_of domains m) before (first_division step) link.first) (divisions_any (limit_of domains m) before (size_division step) (size_aspect type link.size)) d0.1 in
      subst (λ g. CarriesLink domains m point e (record { before = []; scalar = scalar; division = division; link = link; field = g }) p) (sym is_f) (record {
        number = λ t h. number t (ap (λ g. type_of domains m g) is_f ∙ h);
        condition = solves_condition (limit_of domains m) point before e r division link.condition fm.condition d0.0;
        first = solves_any (limit_of domains m) point before e r link.first (first_division step) fm.first d1.0;
        size = solves_any (limit_of domains m) point before e r (size_aspect type link.size) (size_division step) (numeric_aspect type link.size fm.size) d1.1;
      })

  pub rows_carry : (before : List Formed) (befores : List Placed) (scalar division : ℕ) (links : List Arrow) (fields : List Placed) → AreLinks domains m links → Matches point before befores → AreOfTypes domains m befores → ArePlaced domains m total befores links fields
      → (a r : List ℤ) → point ≡ a ++ (Points.numbers_of domains m fields ++ r) → length a ≡ scalar
      → not_below_zero point (flat_map (λ step. division_forms (limit_of domains m) (type_of domains m step.field) step) (Steps.steps_from domains m before scalar division links)) ≡ true
      → Carries domains m point total befores scalar division links fields
  rows_carry before befores scalar division [] [] is match types placed a r pa la rows = tt
  rows_carry before befores scalar division [] (p ∷ fields) is match types placed a r pa la rows = absurd placed
  rows_carry before befores scalar division (link ∷ links) [] is match types placed a r pa la rows = absurd placed
  rows_carry before befores scalar division (link ∷ links) (p ∷ fields) is match types placed a r pa la rows =
      let f = target_field link.target in
      let type = type_of domains m f in
      let step : Step = record { before = before; scalar = scalar; division = division; link = link; field = f } in
      let is_f : p.field ≡ f = ap (λ (q : Placed). q.field) placed.0 in
      let numbers = Points.numbers_of domains m fields in
      let own = number_if (type_of domains m p.field) p.number in
      let parts = parts_of point (division_forms (limit_of domains m) type step) _ rows in
      let c = link_carried before befores scalar division link p is.0 match is_f (λ t h. number_at (type_of domains m p.field) t point a numbers r p.number scalar h pa la) parts.0 in
      let v = link_values domains m formable point total length_is before befores scalar division link p is.0 match types placed.0 placed.1 c in
      let rest = rows_carry (before ++ formed_by type step ∷ []) (befores ++ p ∷ []) (scalar + scalars_in type) (Steps.next_division domains m step) links fields is.1
      (matches_on point before befores (formed_by type step) p match (sym is_f) v.0) (types_on domains m befores p types placed.1) placed.2
      (a ++ own) r (pa ∙ sym (right_first a own numbers r))
      (two a own scalar (scalars_in type) la (if_count (type_of domains m p.field) p.number ∙ ap (λ g. scalars_in (type_of domains m g)) is_f)) parts.1 in (
        c,
        subst (λ x. Carries domains m point total (befores ++ p ∷ []) (scalar + scalars_in (type_of domains m x)) (Steps.next_division domains m (record { before = []; scalar = scalar; division = division; link = link; field = x })) links fields) (sym is_f) rest,
      )

module _ (domains : List Domain) (m : Graph) (formable : AreFormable (limit_of domains m) m) (point : List ℤ) (fields : List Formed) (e : Environment) (r : Represents point fields e) where
  pub rows_solve_each : (n : ℕ) (links : List Arrow) → AreLinks domains m links → not_below_zero point (rows_from (limit_of domains m) fields n links) ≡ true → SolvesEach point n links e
  rows_solve_each n [] is rows = tt
  rows_solve_each n (link ∷ links) is rows =
      let parts = parts_of point (divisions (limit_of domains m) fields n link.condition) (rows_from (limit_of domains m) fields (n + divisions_in link.condition) links) rows in (
        solves_condition (limit_of domains m) point fields e r n link.condition (formable is.0.0 link is.0.1).condition parts.0,
        rows_solve_each (n + divisions_in link.condition) links is.1 parts.1,
      )
