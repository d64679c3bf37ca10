-- The sums and facts of the links along a path, of conditions at its end, and of all of it.
--   Step                         a link into a field, what stands before it, and the numbers of the next variables
--   first_form, size_form, number_form, formed_by    the place and the number of its target
--   condition_form, division_forms, place_forms, overlay_form    what holds of a link that is taken
--   steps_from, formed_after, division_after    the links of a path, one after the other, and what stands behind them
--   links_on, leads_to_field     the links of a path, and whether a link leads to a field
--   LeadsThrough                 the links lead through fields
--   HoldsAt                      what holds of a link that is taken, holds at a point
--   conditions_from, rows_from, met_from, past    the facts, division rows, sums met and variables of conditions at the end
--   met_at                       the sums that are met at a link into a field
--   into_fields, others          the links of a path that lead to fields, and the one to null
--   forms_along                  all forms of a path
--   passes_limit                 whether the path passes the path limit
use Rattle.std.specs.Prelude.{◌≡◌, List, [], ◌∷◌, ◌++◌, ℕ, ◌+◌, ◌==◌, Bool, true, false, not, ◌||◌, ◌&&◌, if◌then◌else◌, nat_le, map, ℤ, pos, Option, Some, None, slice_get}
use Rattle.std.specs.List.{flat_map, filter}
use Rattle.rx_types.specs.Tree.{Tree}
use Rattle.rx_types.specs.Domain.{Domain, size_of}
use Rattle.rx_graph.specs.declared.message.Node.{Node}
use Rattle.rx_graph.specs.declared.message.Node.TheVariants.{Start, At, Null}
use Rattle.rx_graph.specs.Graph.{Arrow, Graph, type_of, overlay_of, limit_of}
use Rattle.rx_graph.specs.Cycles.{IsLink}
use Rattle.rx_forms.specs.declared.linear.Linear.{Linear}
use Rattle.rx_forms.specs.declared.linear.Form.{Form, All}
use Rattle.rx_forms.specs.declared.forms.Forms.{Forms}
use Rattle.rx_forms.specs.Linear.{constant, term, plus, minus, equal, meets, not_below_zero}
use Rattle.rx_forms.specs.Normal.{Formed, formed_of, linear, bits, divisions_in, condition}
use Rattle.rx_forms.specs.Divisions.{divisions}
use Rattle.rx_forms.specs.Limits.{Met, Limited, met, all_kept}

-- A link of a path into a field, the sums of the fields before it, and the numbers of the next variables: of the field's
-- number, if it is a scalar, and of the first division.
pub record Step : Type 0 where
  pub before : List Formed
  pub scalar : ℕ
  pub division : ℕ
  pub link : Arrow
  pub field : ℕ

-- the end of the last field
abbrev pub end_form : List Formed → Linear
end_form [] = constant (pos 0)
end_form (p ∷ []) = p.end
end_form (p ∷ q ∷ ps) = end_form (q ∷ ps)

abbrev pub is_among : ℕ → List Formed → Bool
is_among x [] = false
is_among x (p ∷ ps) = p.field == x || is_among x ps

-- ---- aspects

abbrev pub divisions_in_any : Option Tree → ℕ
divisions_in_any None = 0
divisions_in_any (Some x) = divisions_in x

abbrev pub divisions_any : (ℕ → ℕ) → List Formed → ℕ → Option Tree → List Linear
divisions_any limit before n None = []
divisions_any limit before n (Some x) = divisions limit before n x

abbrev pub form_or : Option Tree → List Formed → ℕ → Linear → Linear
form_or None before n otherwise = otherwise
form_or (Some x) before n otherwise = linear before n x

-- the Size aspect that counts: a scalar has its type's size
abbrev pub size_aspect : Option Domain → Option Tree → Option Tree
size_aspect (Some t) x = None
size_aspect None x = x

-- ---- one link

-- the divisions of a link: those of its condition, then those of its First, then those of its Size
abbrev pub first_division : Step → ℕ
first_division step = step.division + divisions_in step.link.condition

abbrev pub size_division : Step → ℕ
size_division step = first_division step + divisions_in_any step.link.first

abbrev pub first_form : Step → Linear
first_form step = form_or step.link.first step.before (first_division step) (end_form step.before)

-- a scalar is as long as its type says; another target as the Size says, else it is the rest of the message
abbrev pub size_form : Option Domain → Step → Linear
size_form (Some t) step = constant (pos (size_of t))
size_form None step = form_or step.link.size step.before (size_division step) (minus bits (first_form step))

abbrev pub number_form : Option Domain → Step → Linear
number_form (Some t) step = term (pos 1) step.scalar (pos 0)
number_form None step = constant (pos 0)

abbrev pub scalars_in : Option Domain → ℕ
scalars_in (Some t) = 1
scalars_in None = 0

abbrev pub formed_by : Option Domain → Step → Formed
formed_by type step = record { field = step.field; first = first_form step; size = size_form type step; end = plus (first_form step) (size_form type step); number = number_form type step }

abbrev pub condition_form : Step → Form
condition_form step = condition step.before step.division true step.link.condition

abbrev pub division_forms : (ℕ → ℕ) → Option Domain → Step → List Linear
division_forms limit type step =
    divisions limit step.before step.division step.link.condition
    ++ (divisions_any limit step.before (first_division step) step.link.first
    ++ divisions_any limit step.before (size_division step) (size_aspect type step.link.size))

-- First, Size and what is left behind the field
abbrev pub place_forms : Option Domain → Step → List Linear
place_forms type step = first_form step ∷ size_form type step ∷ minus (minus bits (first_form step)) (size_form type step) ∷ []

-- a scalar over a scalar of its size that stands before has that one's number
abbrev pub same_form : Option Domain → Option Domain → Bool → Linear → Linear → Form
same_form (Some s) (Some t) true f g = if size_of s == size_of t then equal f g else All []
same_form s t among f g = All []

-- the number is in its type, as `type_form` has it of a type and a variable
abbrev pub type_form_any : (Domain → ℕ → Form) → Option Domain → Step → Form
type_form_any type_form (Some t) step = type_form t step.scalar
type_form_any type_form None step = All []

-- ---- paths

abbrev pub target_field : Node → ℕ
target_field Start = 0
target_field (At f) = f
target_field Null = 0

abbrev pub leads_to_field : Arrow → Bool
leads_to_field link = elim (link.target) [ Start ↦ false | At f ↦ true | Null ↦ false ]

abbrev pub link_then : Option Arrow → List Arrow → List Arrow
link_then None links = links
link_then (Some link) links = link ∷ links

module _ (domains : List Domain) (m : Graph) where
  abbrev pub overlay_form_any : Option ℕ → Step → Form
  overlay_form_any None step = All []
  overlay_form_any (Some x) step = same_form (type_of domains m step.field) (type_of domains m x) (is_among x step.before) (term (pos 1) step.scalar (pos 0)) (formed_of x step.before).number

  abbrev pub overlay_form : Step → Form
  overlay_form step = overlay_form_any (overlay_of (slice_get m.fields step.field)) step

  -- the link's target as sums
  abbrev pub formed_at : Step → Formed
  formed_at step = formed_by (type_of domains m step.field) step

  abbrev pub next_scalar : Step → ℕ
  next_scalar step = step.scalar + scalars_in (type_of domains m step.field)

  abbrev pub next_division : Step → ℕ
  next_division step = size_division step + divisions_in_any (size_aspect (type_of domains m step.field) step.link.size)

  -- the steps of the links, after these fields and with these next variables
  abbrev pub steps_from : List Formed → ℕ → ℕ → List Arrow → List Step
  steps_from before scalar division [] = []
  steps_from before scalar division (link ∷ links) =
      let step : Step = record { before = before; scalar = scalar; division = division; link = link; field = target_field link.target } in
      step ∷ steps_from (before ++ formed_at step ∷ []) (next_scalar step) (next_division step) links

  -- the sums of all fields at the end of the links
  abbrev pub formed_after : List Formed → ℕ → ℕ → List Arrow → List Formed
  formed_after before scalar division [] = before
  formed_after before scalar division (link ∷ links) =
      let step : Step = record { before = before; scalar = scalar; division = division; link = link; field = target_field link.target } in
      formed_after (before ++ formed_at step ∷ []) (next_scalar step) (next_division step) links

  -- the number of the next division's variable at the end of the links
  abbrev pub division_after : ℕ → List Arrow → ℕ
  division_after division [] = division
  division_after division (link ∷ links) =
      division_after (next_division (record { before = []; scalar = 0; division = division; link = link; field = target_field link.target })) links

  abbrev pub links_on : List ℕ → List Arrow
  links_on [] = []
  links_on (i ∷ path) = link_then (slice_get m.links i) (links_on path)

  abbrev pub scalars_on : List Arrow → ℕ
  scalars_on [] = 0
  scalars_on (link ∷ links) = scalars_in (type_of domains m (target_field link.target)) + scalars_on links

  -- Variable 0 is the length, then come the scalars, then the divisions.
  abbrev pub steps_of : List ℕ → List Step
  steps_of path = steps_from [] 1 (1 + scalars_on (links_on path)) (links_on path)

  -- from this node the links lead through fields to that one
  abbrev pub LeadsThrough : Node → List ℕ → Node → Type 0
  LeadsThrough at [] end = at ≡ end
  LeadsThrough at (i ∷ path) end = (link : Arrow) × (f : ℕ) × IsLink m i link × (link.source ≡ at) × (link.target ≡ At f) × LeadsThrough (At f) path end

  -- what holds of a link that is taken, holds at the point
  pub record HoldsAt (limit : ℕ → ℕ) (type_form : Domain → ℕ → Form) (point : List ℤ) (step : Step) : Type 0 where
    pub divided : not_below_zero point (division_forms limit (type_of domains m step.field) step) ≡ true
    pub taken : meets (condition_form step) point ≡ true
    pub placed : not_below_zero point (place_forms (type_of domains m step.field) step) ≡ true
    pub typed : meets (type_form_any type_form (type_of domains m step.field) step) point ≡ true
    pub overlaid : meets (overlay_form step) point ≡ true

-- ---- conditions at the end of a path, each with the variables behind those of the one before

abbrev pub past : ℕ → List Arrow → ℕ
past n [] = n
past n (link ∷ links) = past (n + divisions_in link.condition) links

abbrev pub conditions_from : List Formed → ℕ → List Arrow → List Form
conditions_from fields n [] = []
conditions_from fields n (link ∷ links) = condition fields n true link.condition ∷ conditions_from fields (n + divisions_in link.condition) links

abbrev pub rows_from : (ℕ → ℕ) → List Formed → ℕ → List Arrow → List Linear
rows_from limit fields n [] = []
rows_from limit fields n (link ∷ links) = divisions limit fields n link.condition ++ rows_from limit fields (n + divisions_in link.condition) links

abbrev pub met_from : List Formed → ℕ → List Arrow → List Met
met_from fields n [] = []
met_from fields n (link ∷ links) = met fields n link.condition ++ met_from fields (n + divisions_in link.condition) links

-- ---- links into fields

abbrev pub met_any : List Formed → ℕ → Option Tree → List Met
met_any fields n None = []
met_any fields n (Some x) = met fields n x

-- what is met in the condition and the aspects of a link, and its First, its Size and its end
abbrev pub met_at : Option Domain → Step → List Met
met_at type step =
    met step.before step.division step.link.condition
    ++ (met_any step.before (first_division step) step.link.first
    ++ (Limited (first_form step)
    ∷ (met_any step.before (size_division step) (size_aspect type step.link.size)
    ++ Limited (size_form type step) ∷ Limited (plus (first_form step) (size_form type step)) ∷ [])))

abbrev pub into_fields : List Arrow → List Arrow
into_fields links = filter leads_to_field links

abbrev pub others : List Arrow → List Arrow
others links = filter (λ link. not (leads_to_field link)) links

module _ (domains : List Domain) (m : Graph) where
  -- the steps of a path, with the numbers of its first variables
  abbrev pub steps_along : List ℕ → List Step
  steps_along path = steps_from domains m [] 1 (1 + scalars_on domains m (into_fields (links_on domains m path))) (into_fields (links_on domains m path))

  abbrev pub fields_along : List ℕ → List Formed
  fields_along path = formed_after domains m [] 1 (1 + scalars_on domains m (into_fields (links_on domains m path))) (into_fields (links_on domains m path))

  -- the number of the first variable behind those of the links into fields
  abbrev pub next_along : List ℕ → ℕ
  next_along path = division_after domains m (1 + scalars_on domains m (into_fields (links_on domains m path))) (into_fields (links_on domains m path))

  -- the link to null, if the path has one, and the further links at its end
  abbrev pub ends_along : List ℕ → List ℕ → List Arrow
  ends_along path out = others (links_on domains m path) ++ links_on domains m out

  abbrev pub variables_along : List ℕ → List ℕ → ℕ
  variables_along path out = past (next_along path) (ends_along path out)

  abbrev pub forms_along : List ℕ → List ℕ → Forms
  forms_along path out = record {
    variables = variables_along path out;
    divisions = flat_map (λ step. division_forms (limit_of domains m) (type_of domains m step.field) step) (steps_along path) ++ rows_from (limit_of domains m) (fields_along path) (next_along path) (ends_along path out);
    firsts = map first_form (steps_along path);
    sizes = map (λ step. size_form (type_of domains m step.field) step) (steps_along path);
    conditions = map condition_form (steps_along path) ++ conditions_from (fields_along path) (next_along path) (ends_along path out);
  }

  -- The length, the scalars and the divisions make more than 190 variables, or a sum that is met is too large.
  abbrev pub passes_limit : List ℕ → List ℕ → Bool
  passes_limit path out =
      not (nat_le (variables_along path out) 190
      && all_kept (flat_map (λ step. met_at (type_of domains m step.field) step) (steps_along path) ++ met_from (fields_along path) (next_along path) (ends_along path out)))
