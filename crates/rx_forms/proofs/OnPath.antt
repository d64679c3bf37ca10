-- What holds of the forms of a whole path.
use Rattle.std.proofs.Common.{◌≡◌, refl, sym, ap, subst, ◌∙◌, ℕ, suc, ◌+◌, ◌<◌, ◌≤◌, arith, List, [], ◌∷◌, ◌++◌, map, length, take, true, not, ℤ, pos, Some, ◌⊎◌, inl, inr, append_assoc, append-nil}
use Rattle.std.specs.Prelude.{slice_get}
use Rattle.std.specs.List.{flat_map}
use Rattle.std.proofs.lemmas.List.{map-append, get_or_append_left, ext_get_or, append_cancel_left, take_all}
use Rattle.std.proofs.lemmas.Grind.{flat_map-append}
use Rattle.rx_types.specs.Domain.{Domain}
use Rattle.rx_types.specs.Environment.{Placed, in_message}
use Rattle.rx_types.specs.Narrow.{StaysWithin}
use Rattle.rx_graph.specs.declared.message.Node.{Node}
use Rattle.rx_graph.specs.Graph.{Arrow, Graph, limit_of, type_of}
use Rattle.rx_graph.specs.Elaborated.{IsElaborated}
use Rattle.rx_graph.specs.Paths.{IsPartial}
use Rattle.rx_graph.proofs.Bounded.{stays_within}
use Rattle.rx_forms.specs.declared.linear.Linear.{Linear}
use Rattle.rx_forms.specs.Linear.{meets, not_below_zero}
use Rattle.rx_forms.specs.Normal.{Formed}
use Rattle.rx_forms.specs.Points.{Represents}
use Rattle.rx_forms.specs.Steps
use Rattle.rx_forms.specs.Steps.{Step, target_field, leads_to_field, condition_form, division_forms, into_fields, others, past, conditions_from, rows_from}
use Rattle.rx_forms.specs.Links.{AreFormable, AreNarrow}
use Rattle.rx_forms.proofs.Carries
use Rattle.rx_forms.specs.Points
use Rattle.rx_forms.specs.Placing
use Rattle.rx_forms.specs.Placing.{quotients_at, rows_each}
use Rattle.rx_forms.specs.Laws.{FormsHaveValues, DivisionRowsHold, RowsLeaveOnePoint}
use Rattle.rx_forms.proofs.Extension.{two}
use Rattle.rx_forms.proofs.Quotients.{parts_of}
use Rattle.rx_forms.proofs.Carrying.{SolvesEach, each_solved, each_length, placed_length, placed_numbers, placed_quotients, placed_carries}
use Rattle.rx_forms.proofs.Matching.{represents}
use Rattle.rx_forms.proofs.Placing.{AreLinks, are_links, links_kept, links_both, numbers_within, are_worth, AreWorth, ends_meet}
use Rattle.rx_forms.proofs.Partials.{in_either, one_of_all, rows_at, ends_rows, rows_joined, mapped_joined}
use Rattle.rx_forms.proofs.OnePoint.{Same, by_place, each_same, carried_same, rows_carry, rows_solve_each}

steps_length : (domains : List Domain) (m : Graph) (before : List Formed) (scalar division : ℕ) (links : List Arrow) → length (Steps.steps_from domains m before scalar division links) ≡ length links
steps_length domains m before scalar division [] = refl
steps_length domains m before scalar division (link ∷ links) =
    let step : Step = record { before = before; scalar = scalar; division = division; link = link; field = target_field link.target } in
    ap (λ n. suc n) (steps_length domains m (before ++ Steps.formed_at domains m step ∷ []) (Steps.next_scalar domains m step) (Steps.next_division domains m step) links)

mapped_length : {X Y : Type 0} (f : X → Y) (xs : List X) → length (map f xs) ≡ length xs
mapped_length f [] = refl
mapped_length f (x ∷ xs) = ap (λ n. suc n) (mapped_length f xs)

module _ (domains : List Domain) (m : Graph) (el : IsElaborated domains m) (formable : AreFormable (limit_of domains m) m) (narrow : AreNarrow (limit_of domains m) m)
    (total : ℕ) (path out : List ℕ) (fields : List Placed) (placed : Placing.ArePlacedOn domains m total path fields) where
  abbrev links : List Arrow
  links = into_fields (Steps.links_on domains m path)

  abbrev ends : List Arrow
  ends = Steps.ends_along domains m path out

  abbrev numbers : List ℤ
  numbers = Points.numbers_of domains m fields

  abbrev count : ℕ
  count = Steps.scalars_on domains m links

  abbrev along : List ℤ
  along = Points.quotients_along domains m total [] links fields

  abbrev at_end : List ℤ
  at_end = quotients_at (in_message total fields) ends

  abbrev next : ℕ
  next = Steps.next_along domains m path

  abbrev before_ends : List Formed
  before_ends = Steps.fields_along domains m path

  abbrev point : List ℤ
  point = Placing.point_on domains m total path out fields

  abbrev front : List ℤ
  front = pos total ∷ numbers

  links_are : AreLinks domains m links
  links_are = links_kept domains m leads_to_field (Steps.links_on domains m path) (are_links domains m path)

  ends_are : AreLinks domains m ends
  ends_are = links_both domains m (others (Steps.links_on domains m path)) (Steps.links_on domains m out) (links_kept domains m (λ link. not (leads_to_field link)) (Steps.links_on domains m path) (are_links domains m path)) (are_links domains m out)

  front_length : length front ≡ 1 + count
  front_length = two (pos total ∷ []) numbers 1 count refl (placed_numbers domains m total [] links fields placed)

  before_length : length (front ++ along) ≡ next
  before_length =
      let a = two front along (1 + count) (length along) front_length refl in
      let b = placed_quotients domains m total [] links fields (1 + count) placed in
      turned (length (front ++ along)) count (length along) next a b
    where
      turned : (x c y n : ℕ) → x ≡ 1 + c + y → y + (1 + c) ≡ n → x ≡ n
      turned x c y n p q = omega (arith, p, q)

  point_length : Steps.variables_along domains m path out ≡ length point
  point_length =
      let a = two (front ++ along) at_end next (length at_end) before_length refl in
      let b = each_length ends (in_message total fields) next in
      turned (length point) (length ((front ++ along) ++ at_end)) (length at_end) next (past next ends) (ap (λ (zs : List ℤ). length zs) (append_assoc front along at_end)) a b
    where
      turned : (x z y n k : ℕ) → z ≡ x → z ≡ n + y → y + n ≡ k → k ≡ x
      turned x z y n k p q r = omega (arith, p, q, r)

  carries : Carries.Carries domains m point total [] 1 (1 + count) links fields
  carries = placed_carries domains m total links fields at_end placed

  worth : AreWorth domains m formable point total refl [] [] 1 (1 + count) links fields
  worth = are_worth domains m formable point total refl [] [] 1 (1 + count) links fields links_are tt tt placed carries

  represented : Represents point before_ends (in_message total fields)
  represented = represents point total before_ends fields refl worth.matches

  ends_solved : SolvesEach point next ends (in_message total fields)
  ends_solved = each_solved ends (in_message total fields) point (front ++ along) [] next (ap (λ (zs : List ℤ). front ++ (along ++ zs)) (sym (append-nil at_end)) ∙ sym (append_assoc front along (at_end ++ []))) before_length

  pub has_values : Placing.HaveValues domains m total path out fields point (Steps.forms_along domains m path out)
  has_values = record {
    variables = point_length;
    firsts = worth.firsts;
    sizes = worth.sizes;
    conditions =
        map-append (λ form. meets form point) (map condition_form (Steps.steps_along domains m path)) (conditions_from before_ends next ends)
        ∙ ap (λ ts. ts ++ map (λ form. meets form point) (conditions_from before_ends next ends)) worth.conditions
        ∙ ap (λ ts. Placing.truths_along domains m total [] links fields ++ ts) (ends_meet domains m formable point before_ends (in_message total fields) represented (numbers_within domains m total fields worth.types) next ends ends_are ends_solved);
  }

  -- ---- the rows

  abbrev link_forms : Step → List Linear
  link_forms step = division_forms (limit_of domains m) (type_of domains m step.field) step

  abbrev rows_along : List (List Linear)
  rows_along = map link_forms (Steps.steps_along domains m path)

  abbrev rows_at_ends : List (List Linear)
  rows_at_ends = rows_each (limit_of domains m) before_ends next ends

  all_fields : (i : ℕ) → length rows_along ≤ i → length fields ≤ i
  all_fields i h = counted (length rows_along) (length fields) i (mapped_length link_forms (Steps.steps_along domains m path) ∙ steps_length domains m [] 1 (1 + count) links ∙ placed_length domains m total [] links fields placed) h
    where
      counted : (x y i : ℕ) → x ≡ y → x ≤ i → y ≤ i
      counted x y i p q = omega (arith, p, q)

  pub holds : (i : ℕ) (rows : List Linear) (node : Node) → slice_get (Placing.rows_by_link domains m path out) i ≡ Some rows → IsPartial domains m total (take i path) (take i fields) node → not_below_zero point rows ≡ true
  holds i rows node g partial = by_side (in_either rows_along rows_at_ends i rows g)
    where
      by_side : (slice_get rows_along i ≡ Some rows) ⊎ ((k : ℕ) × (length rows_along ≤ i) × (slice_get rows_at_ends k ≡ Some rows)) → not_below_zero point rows ≡ true
      by_side (inl h) = rows_at domains m formable narrow point total refl [] [] 1 (1 + count) links fields i rows links_are tt tt placed carries (stays_within domains m el total (take i path) (take i fields) node partial) h
      by_side (inr h) =
          one_of_all (λ forms. not_below_zero point forms ≡ true) rows_at_ends h.0 rows
          (ends_rows domains m formable narrow point before_ends (in_message total fields) represented (subst (λ ps. StaysWithin (limit_of domains m) (in_message total ps)) (take_all i fields (all_fields i h.1)) (stays_within domains m el total (take i path) (take i fields) node partial)) next ends ends_are ends_solved) h.2

  -- ---- one point alone

  in_front : (rest : List ℤ) (v : ℕ) → v < 1 + count → Same (front ++ rest) point v
  in_front rest v k =
      let h = subst (λ n. v < n) (sym front_length) k in
      get_or_append_left front rest (pos 0) v h ∙ sym (get_or_append_left front (along ++ at_end) (pos 0) v h)

  same : (rest : List ℤ) → Carries.Carries domains m (front ++ rest) total [] 1 (1 + count) links fields → SolvesEach (front ++ rest) next ends (in_message total fields) → (v : ℕ) → v < past next ends → Same (front ++ rest) point v
  same rest c s v high =
      by_place (front ++ rest) point (1 + count) v (λ k. in_front rest v k) (λ l.
      by_place (front ++ rest) point next v (λ k. carried_same (front ++ rest) point domains m total links fields [] 1 (1 + count) v placed c carries l k)
      (λ k. each_same (front ++ rest) point ends (in_message total fields) next v s ends_solved k high))

  pub one_point : (rest : List ℤ) → length (front ++ rest) ≡ Steps.variables_along domains m path out → not_below_zero (front ++ rest) (Steps.forms_along domains m path out).divisions ≡ true → rest ≡ Placing.quotients_on domains m total path out fields
  one_point rest long rows =
      let other = front ++ rest in
      let parts = parts_of other (flat_map link_forms (Steps.steps_along domains m path)) (rows_from (limit_of domains m) before_ends next ends) rows in
      let c = rows_carry domains m formable other total refl [] [] 1 (1 + count) links fields links_are tt tt placed (pos total ∷ []) rest refl refl parts.0 in
      let w = are_worth domains m formable other total refl [] [] 1 (1 + count) links fields links_are tt tt placed c in
      let r = represents other total before_ends fields refl w.matches in
      let s = rows_solve_each domains m formable other before_ends (in_message total fields) r next ends ends_are parts.1 in
      append_cancel_left front rest (along ++ at_end) (ext_get_or (pos 0) other point (long ∙ point_length) (λ v h. same rest c s v (subst (λ n. v < n) long h)))

-- the rows of the divisions are those of the links
rows_are : (domains : List Domain) (m : Graph) (path out : List ℕ) → (Steps.forms_along domains m path out).divisions ≡ flat_map (λ rows. rows) (Placing.rows_by_link domains m path out)
rows_are domains m path out =
    let f : Step → List Linear = λ step. division_forms (limit_of domains m) (type_of domains m step.field) step in
    let steps = Steps.steps_along domains m path in
    let fields = Steps.fields_along domains m path in
    let n = Steps.next_along domains m path in
    let ends = Steps.ends_along domains m path out in
    ap (λ (rows : List Linear). rows ++ rows_from (limit_of domains m) fields n ends) (mapped_joined f steps)
    ∙ ap (λ (rows : List Linear). flat_map (λ rows. rows) (map f steps) ++ rows) (rows_joined (limit_of domains m) fields n ends)
    ∙ sym (flat_map-append (λ rows. rows) (map f steps) (rows_each (limit_of domains m) fields n ends))

module _ (domains : List Domain) (m : Graph) (el : IsElaborated domains m) (formable : AreFormable (limit_of domains m) m) (narrow : AreNarrow (limit_of domains m) m) where
  pub forms_have_values : FormsHaveValues domains m
  forms_have_values total path out fields placed = has_values domains m el formable narrow total path out fields placed

  pub division_rows_hold : DivisionRowsHold domains m
  division_rows_hold = record {
    by_link = λ path out. rows_are domains m path out;
    hold = λ total path out fields i rows node placed g partial. holds domains m el formable narrow total path out fields placed i rows node g partial;
  }

  pub rows_leave_one_point : RowsLeaveOnePoint domains m
  rows_leave_one_point total path out fields rest placed long rows = one_point domains m el formable narrow total path out fields placed rest long rows
