-- The query of a path and a goal: what the path asks, and what the goal asks at its end.
--   path_forms steps asked      the facts of a path, and of what is asked at its end
--   Asked, asked_of             what is asked at the end of a path: the conditions of links, the First and the Size that are
--                               named, and a formula, with the rows of its divisions and of its quotients by 8
--   position_formula, grid_formula, overlay_formula, cover_formula, null_formula, whole_formula    what breaks a goal
--   asked_by goal               what a goal asks
--   query_form, query_for       the fact and the query of a path and a goal
use Rattle.std.specs.Prelude.{List, [], ◌∷◌, ◌++◌, map, filter, take, length, ℕ, ◌+◌, ◌-◌, ◌^◌, pos, negsuc, neg_ℤ, Option, Some, None, slice_get}
use Rattle.std.specs.Int.{int_div_euclid}
use Rattle.rx_types.specs.declared.interval.Interval.{Interval}
use Rattle.rx_types.specs.Tree.{Tree}
use Rattle.rx_types.specs.Domain.{Domain}
use Rattle.rx_types.specs.Narrow.{from_to, places_in_bits, interval_of}
use Rattle.rx_graph.specs.declared.message.Node.{Node}
use Rattle.rx_graph.specs.declared.message.Node.TheVariants.{Start, At, Null}
use Rattle.rx_graph.specs.Graph.{Arrow, Graph, type_of, overlay_of, limit_of}
use Rattle.rx_graph.specs.Checks.{is_node}
use Rattle.rx_proof.specs.declared.query.Query.{Query}
use Rattle.rx_forms.specs.declared.linear.Linear.{Linear}
use Rattle.rx_forms.specs.declared.linear.Form.{Form, AtLeast, All, Any}
use Rattle.rx_forms.specs.Linear.{constant, term, at_least, above, unequal}
use Rattle.rx_forms.specs.Normal.{Formed, formed_of, divisions_in}
use Rattle.rx_forms.specs.Laws.{fields_on}
use Rattle.rx_forms.specs.Steps.{Step, type_form_any, place_forms, overlay_form, condition_form, division_forms, first_form, size_form, size_aspect, end_form, divisions_any, divisions_in_any, target_field, steps_of, division_after, scalars_on, links_on, conditions_from, rows_from, past}
use Rattle.rx_layout.specs.declared.goal.Goal.{Goal}
use Rattle.rx_layout.specs.declared.goal.Goal.TheVariants.{Exclusive, Taken, Reached, Position, Grid, Overlay, Cover, Whole}
use Rattle.rx_layout.specs.Types.{type_form, between}
use Rattle.rx_layout.specs.Parts.{query_of, parts_of}

-- each sum is at least 0
abbrev pub rows : List Linear → Form
rows forms = All (map (λ f. AtLeast f) forms)

-- a length in bytes
abbrev pub length_form : Form
length_form = All (between 0 16777215 0)

-- what is asked at the end of a path: facts, the rows of their divisions, and how many variables there are in all
pub record Asked : Type 0 where
  pub forms : List Form
  pub divisions : List Linear
  pub variables : ℕ

-- ---- formulas

-- First or Size is below 0
abbrev pub position_formula : Linear → Linear → Form
position_formula first size = Any (above (constant (pos 0)) first ∷ above (constant (pos 0)) size ∷ [])

-- from 1 to 7 more than 8 times variable q
abbrev pub no_multiple : Linear → ℕ → Form
no_multiple form q = All (at_least form (term (pos 8) q (pos 1)) ∷ at_least (term (pos 8) q (pos 7)) form ∷ [])

-- First or Size is no multiple of 8
abbrev pub grid_formula : Linear → Linear → ℕ → Form
grid_formula first size q = Any (no_multiple first q ∷ no_multiple size (q + 1) ∷ [])

-- Size is less or greater than that of the field below
abbrev pub overlay_formula : Linear → Linear → Form
overlay_formula size below = unequal size below

-- an earlier field ends after First, or all of them end before; without earlier fields First is less or greater than 0
abbrev pub cover_formula : List Formed → Linear → Form
cover_formula [] first = unequal first (constant (pos 0))
cover_formula (p ∷ ps) first = Any (map (λ f. above f.end first) (p ∷ ps) ++ All (map (λ f. above first f.end) (p ∷ ps)) ∷ [])

-- all fields but the last one
abbrev pub before_last : List Formed → List Formed
before_last fields = take (length fields - 1) fields

-- a field before the last one ends after it
abbrev pub null_formula : List Formed → Form
null_formula fields = Any (map (λ f. above f.end (end_form fields)) (before_last fields))

-- ---- quotients by 8

-- variable q lies between the quotients of the interval's ends
abbrev pub unit_rows : ℕ → Interval → List Linear
unit_rows q i = term (pos 1) q (neg_ℤ (int_div_euclid i.low (pos 8))) ∷ term (negsuc 0) q (int_div_euclid i.high (pos 8)) ∷ []

abbrev pub interval_or : (ℕ → ℕ) → Option Tree → Interval → Interval
interval_or limit None otherwise = otherwise
interval_or limit (Some x) otherwise = interval_of limit x

-- what a field that is the rest of the message may have as its Size
abbrev pub rest_interval : Interval
rest_interval = from_to (neg_ℤ (pos (2 ^ 27))) (pos (2 ^ 27))

-- ---- links

-- link n of the node, counted from 1
abbrev pub link_numbered : Graph → Node → ℕ → Option Arrow
link_numbered m node n = slice_get (filter (λ l. is_node node l.source) m.links) (n - 1)

module _ (domains : List Domain) (m : Graph) where
  -- Types, length, places, overlays and conditions of the path, then what is asked at its end. The divisions stand last.
  abbrev pub path_forms : List Step → List Form → List Linear → List Form
  path_forms steps asked divided =
      map (λ s. type_form_any type_form (type_of domains m s.field) s) steps
      ++ (length_form ∷ (map (λ s. rows (place_forms (type_of domains m s.field) s)) steps
      ++ (map (λ s. overlay_form domains m s) steps
      ++ (map condition_form steps
      ++ (asked
      ++ (map (λ s. rows (division_forms (limit_of domains m) (type_of domains m s.field) s)) steps
      ++ rows divided ∷ []))))))

  -- the number of the first division variable behind a path
  abbrev pub division_at : List ℕ → ℕ
  division_at path = division_after domains m (1 + scalars_on domains m (links_on domains m path)) (links_on domains m path)

  -- ---- what is asked

  -- The links are taken, and the formula holds. Their conditions have the first division variables, then the named First and
  -- the named Size, and then come so many quotients by 8.
  abbrev pub asked_of : List Formed → ℕ → List Arrow → Option Tree → Option Tree → List Form → List Linear → ℕ → Asked
  asked_of fields n links first size formula units quotients =
      let k = past n links in record {
        forms = conditions_from fields n links ++ formula;
        divisions = rows_from (limit_of domains m) fields n links ++ (divisions_any (limit_of domains m) fields k first ++ (divisions_any (limit_of domains m) fields (k + divisions_in_any first) size ++ units));
        variables = k + divisions_in_any first + divisions_in_any size + quotients;
      }

  -- the links are taken
  abbrev pub taken_asked : List Formed → ℕ → List Arrow → Asked
  taken_asked fields n links = asked_of fields n links None None [] [] 0

  -- a link at the end of a path, behind these fields, whose condition has the division variables from n on
  abbrev pub goal_step : List Formed → ℕ → Arrow → Step
  goal_step fields n link = record { before = fields; scalar = 0; division = n; link = link; field = target_field link.target }

  abbrev pub position_asked : List Formed → ℕ → Arrow → Asked
  position_asked fields n link =
      let step = goal_step fields n link in
      let type = type_of domains m step.field in
      asked_of fields n (link ∷ []) link.first (size_aspect type link.size) (position_formula (first_form step) (size_form type step) ∷ []) [] 0

  -- a field of bytes, whose First and Size have a quotient by 8 each
  abbrev pub grid_asked : List Formed → ℕ → Arrow → Asked
  grid_asked fields n link =
      let step = goal_step fields n link in
      let q = n + divisions_in link.condition + divisions_in_any link.first + divisions_in_any link.size in
      asked_of fields n (link ∷ []) link.first link.size (grid_formula (first_form step) (size_form None step) q ∷ [])
      (unit_rows q (interval_or (limit_of domains m) link.first places_in_bits) ++ unit_rows (q + 1) (interval_or (limit_of domains m) link.size rest_interval)) 2

  -- an overlay of x; its First has no division
  abbrev pub overlay_asked : List Formed → ℕ → Arrow → ℕ → Asked
  overlay_asked fields n link x =
      let step = goal_step fields n link in
      let type = type_of domains m step.field in
      asked_of fields n (link ∷ []) link.first (size_aspect type link.size) (overlay_formula (size_form type step) (formed_of x fields).size ∷ []) [] 0

  abbrev pub overlay_on : Option ℕ → List Formed → ℕ → Arrow → Asked
  overlay_on None fields n link = taken_asked fields n (link ∷ [])
  overlay_on (Some x) fields n link = overlay_asked fields n link x

  -- a field that is an overlay is never uncovered
  abbrev pub cover_asked : Option ℕ → List Formed → ℕ → Arrow → Asked
  cover_asked None fields n link = asked_of fields n (link ∷ []) link.first None (cover_formula fields (first_form (goal_step fields n link)) ∷ []) [] 0
  cover_asked (Some x) fields n link = asked_of fields n (link ∷ []) None None (Any [] ∷ []) [] 0

  abbrev pub cover_to : Node → List Formed → ℕ → Arrow → Asked
  cover_to Start fields n link = taken_asked fields n (link ∷ [])
  cover_to (At f) fields n link = cover_asked (overlay_of (slice_get m.fields f)) fields n link
  cover_to Null fields n link = asked_of fields n (link ∷ []) None None (null_formula fields ∷ []) [] 0

  -- the end has a quotient by 8
  abbrev pub whole_asked : List Formed → ℕ → Arrow → Asked
  whole_asked fields n link =
      let q = n + divisions_in link.condition in
      asked_of fields n (link ∷ []) None None (no_multiple (end_form fields) q ∷ []) (unit_rows q places_in_bits) 1

  abbrev pub with_link : Option Arrow → List Formed → ℕ → (Arrow → Asked) → Asked
  with_link None fields n ask = taken_asked fields n []
  with_link (Some link) fields n ask = ask link

  -- what the goal asks behind these fields, where n is the next division variable
  abbrev pub asked_by : Goal → List Formed → ℕ → Asked
  asked_by (Exclusive node a b) fields n = with_link (link_numbered m node a) fields n (λ l. with_link (link_numbered m node b) fields n (λ k. taken_asked fields n (l ∷ k ∷ [])))
  asked_by (Taken node a) fields n = with_link (link_numbered m node a) fields n (λ l. taken_asked fields n (l ∷ []))
  asked_by (Reached f) fields n = taken_asked fields n []
  asked_by (Position node a) fields n = with_link (link_numbered m node a) fields n (λ l. position_asked fields n l)
  asked_by (Grid node a) fields n = with_link (link_numbered m node a) fields n (λ l. grid_asked fields n l)
  asked_by (Overlay node a) fields n = with_link (link_numbered m node a) fields n (λ l. overlay_on (overlay_of (slice_get m.fields (target_field l.target))) fields n l)
  asked_by (Cover node a) fields n = with_link (link_numbered m node a) fields n (λ l. cover_to l.target fields n l)
  asked_by (Whole node a) fields n = with_link (link_numbered m node a) fields n (λ l. whole_asked fields n l)

  -- ---- the query

  abbrev pub asked_form : List ℕ → Asked → Form
  asked_form path asked = All (path_forms (steps_of domains m path) asked.forms asked.divisions)

  abbrev pub asked_query : List ℕ → Asked → Query
  asked_query path asked = query_of asked.variables (parts_of asked.variables (asked_form path asked))

  -- what a goal asks at the end of a path
  abbrev pub asked_at : Goal → List ℕ → Asked
  asked_at goal path = asked_by goal (fields_on domains m path) (division_at path)

  -- the query of a path and a goal
  abbrev pub query_for : Goal → List ℕ → Query
  query_for goal path = asked_query path (asked_at goal path)
