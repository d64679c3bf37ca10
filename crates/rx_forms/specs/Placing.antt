-- What the forms of a path speak of: its fields where they are placed, and the point of their numbers and quotients.
--   ArePlaced                  each field is where its link places it, and has a number of its type
--   AreNumbersFor              a number of its type for each scalar that links lead to
--   truths_along, truths_at    whether the conditions of links are true, behind the fields before each, and behind all
--   quotients_at, quotients_on, point_on    the quotients of links at the end, of all links, and the point of a path
--   HaveValues                 the forms of a path have the values of its fields at a point
--   rows_each, rows_by_link    the rows of the divisions, link by link
-- Of the links nothing is said: whether they are taken, and whether the fields lie within the message, is left open.
use Rattle.std.specs.Prelude.{◌≡◌, ℕ, ◌+◌, List, [], ◌∷◌, ◌++◌, length, map, Bool, ℤ, pos, Option, Some, None}
use Rattle.rx_types.specs.Domain.{Domain, IsNumberOf}
use Rattle.rx_types.specs.Environment.{Environment, Placed, in_message}
use Rattle.rx_types.specs.Value.{value_of, is_one}
use Rattle.rx_graph.specs.Graph.{Arrow, Graph, type_of, limit_of}
use Rattle.rx_graph.specs.Paths.{HasNumber, placed_by}
use Rattle.rx_forms.specs.declared.linear.Linear.{Linear}
use Rattle.rx_forms.specs.declared.forms.Forms.{Forms}
use Rattle.rx_forms.specs.Linear.{at, meets}
use Rattle.rx_forms.specs.Normal.{Formed, divisions_in}
use Rattle.rx_forms.specs.Divisions.{divisions, quotients}
use Rattle.rx_forms.specs.Steps.{target_field, division_forms, links_on, into_fields, steps_along, fields_along, next_along, ends_along}
use Rattle.rx_forms.specs.Points.{numbers_of, quotients_along}

-- whether the conditions of these links are true behind the same fields
abbrev pub truths_at : Environment → List Arrow → List Bool
truths_at e links = map (λ link. is_one (value_of link.condition e)) links

-- the quotients of their divisions
abbrev pub quotients_at : Environment → List Arrow → List ℤ
quotients_at e [] = []
quotients_at e (link ∷ links) = quotients link.condition e ++ quotients_at e links

-- the rows of their divisions, each link's with the variables behind those of the one before
abbrev pub rows_each : (ℕ → ℕ) → List Formed → ℕ → List Arrow → List (List Linear)
rows_each limit fields n [] = []
rows_each limit fields n (link ∷ links) = divisions limit fields n link.condition ∷ rows_each limit fields (n + divisions_in link.condition) links

-- the first number is of the scalar type, if there is one, and the rest is so
abbrev pub NumberThen : Option Domain → List ℕ → (List ℕ → Type 0) → Type 0
NumberThen None numbers P = P numbers
NumberThen (Some t) [] P = ⊥
NumberThen (Some t) (n ∷ numbers) P = IsNumberOf t n × P numbers

module _ (domains : List Domain) (m : Graph) where
  -- behind the fields before, each field is where its link places it, and has a number of its type, 0 where it is no scalar
  abbrev pub ArePlaced : ℕ → List Placed → List Arrow → List Placed → Type 0
  ArePlaced total before [] [] = Unit {0}
  ArePlaced total before [] (p ∷ fields) = ⊥
  ArePlaced total before (link ∷ links) [] = ⊥
  ArePlaced total before (link ∷ links) (p ∷ fields) =
      (p ≡ placed_by domains m link (in_message total before) (target_field link.target) p.number)
      × HasNumber (type_of domains m p.field) p.number
      × ArePlaced total (before ++ p ∷ []) links fields

  -- a number for each scalar that the links lead to, one after the other, each of its type
  abbrev pub AreNumbersFor : List Arrow → List ℕ → Type 0
  AreNumbersFor [] [] = Unit {0}
  AreNumbersFor [] (n ∷ numbers) = ⊥
  AreNumbersFor (link ∷ links) numbers = NumberThen (type_of domains m (target_field link.target)) numbers (λ rest. AreNumbersFor links rest)

  abbrev pub truths_along : ℕ → List Placed → List Arrow → List Placed → List Bool
  truths_along total before (link ∷ links) (p ∷ fields) = is_one (value_of link.condition (in_message total before)) ∷ truths_along total (before ++ p ∷ []) links fields
  truths_along total before links fields = []

  -- the fields of a path, the truths of its links and of those at its end, and the quotients of their divisions
  abbrev pub ArePlacedOn : ℕ → List ℕ → List Placed → Type 0
  ArePlacedOn total path fields = ArePlaced total [] (into_fields (links_on domains m path)) fields

  abbrev pub truths_on : ℕ → List ℕ → List ℕ → List Placed → List Bool
  truths_on total path out fields = truths_along total [] (into_fields (links_on domains m path)) fields ++ truths_at (in_message total fields) (ends_along domains m path out)

  abbrev pub quotients_on : ℕ → List ℕ → List ℕ → List Placed → List ℤ
  quotients_on total path out fields = quotients_along domains m total [] (into_fields (links_on domains m path)) fields ++ quotients_at (in_message total fields) (ends_along domains m path out)

  -- the length of the message, the numbers of the scalars, and the quotients
  abbrev pub point_on : ℕ → List ℕ → List ℕ → List Placed → List ℤ
  point_on total path out fields = pos total ∷ (numbers_of domains m fields ++ quotients_on total path out fields)

  -- the firsts and the sizes are those of the fields, and a condition holds exactly where its link's is true
  pub record HaveValues (total : ℕ) (path out : List ℕ) (fields : List Placed) (point : List ℤ) (forms : Forms) : Type 0 where
    pub variables : forms.variables ≡ length point
    pub firsts : map (λ form. at form point) forms.firsts ≡ map (λ p. p.first) fields
    pub sizes : map (λ form. at form point) forms.sizes ≡ map (λ p. p.size) fields
    pub conditions : map (λ form. meets form point) forms.conditions ≡ truths_on total path out fields

  -- the rows of the divisions of a path and of links at its end, link by link
  abbrev pub rows_by_link : List ℕ → List ℕ → List (List Linear)
  rows_by_link path out =
      map (λ step. division_forms (limit_of domains m) (type_of domains m step.field) step) (steps_along domains m path)
      ++ rows_each (limit_of domains m) (fields_along domains m path) (next_along domains m path) (ends_along domains m path out)
