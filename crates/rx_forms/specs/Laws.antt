-- What holds of forms.
--   SumsHaveValues, FactsHoldWhereTrue     the sum of an expression has its value, and the fact of a condition its truth
--   RowsLeaveNoChoice, RowsHoldOfQuotients, QuotientsSolve    the rows of divisions, and the quotients
--   RowsMakePartial, PartialMakesRows      the rows along a path hold exactly where the path is partial
--   NumbersPlaceFields         a length and numbers of the types place the fields of a path
--   FormsHaveValues, DivisionRowsHold, RowsLeaveOnePoint    the forms of a path have the values of its fields at one point, at
--       which the rows of its divisions hold
use Rattle.std.specs.Prelude.{◌≡◌, ◌↔◌, ℕ, ◌+◌, ◌<◌, ◌≤◌, ◌^◌, Bool, true, ℤ, pos, List, [], ◌∷◌, ◌++◌, length, map, take, get_or, Some, slice_get}
use Rattle.std.specs.List.{AllByRecursion, flat_map}
use Rattle.rx_types.specs.Tree.{Tree}
use Rattle.rx_types.specs.Domain.{Domain, IsNumberOf}
use Rattle.rx_types.specs.Environment.{Environment, Placed, place_of}
use Rattle.rx_types.specs.Value.{value_of, is_one}
use Rattle.rx_types.specs.Narrow.{IsNarrow, StaysWithin}
use Rattle.rx_graph.specs.declared.message.Node.{Node}
use Rattle.rx_graph.specs.declared.message.Node.TheVariants.{Start}
use Rattle.rx_graph.specs.Graph.{Graph, limit_of}
use Rattle.rx_graph.specs.Paths.{IsPartial}
use Rattle.rx_forms.specs.declared.linear.Linear.{Linear}
use Rattle.rx_forms.specs.declared.linear.Form.{Form}
use Rattle.rx_forms.specs.Linear.{at, meets, not_below_zero}
use Rattle.rx_forms.specs.Normal.{Formed, linear, condition, agree, IsNumeric, IsCondition}
use Rattle.rx_forms.specs.Divisions.{divisions, quotients}
use Rattle.rx_forms.specs.Points.{Represents, Solves, Matches, numbers_of, point_of}
use Rattle.rx_forms.specs.Steps.{LeadsThrough, HoldsAt, steps_of, links_on, scalars_on, formed_after, into_fields, forms_along, variables_along}
use Rattle.rx_forms.specs.Placing.{AreNumbersFor, ArePlacedOn, HaveValues, quotients_on, point_on, rows_by_link}

-- ---- expressions

abbrev pub SumsHaveValues : Type 0
SumsHaveValues =
    (point : List ℤ) (fields : List Formed) (e : Environment) (n : ℕ) (x : Tree) → Represents point fields e → IsNumeric x → Solves point n x e
    → at (linear fields n x) point ≡ value_of x e

-- no field has a number above its limit
abbrev pub NumbersWithin : (ℕ → ℕ) → Environment → Type 0
NumbersWithin limit e = (f : ℕ) → (place_of f e.fields).number ≤ limit f

abbrev pub FactsHoldWhereTrue : Type 0
FactsHoldWhereTrue =
    (limit : ℕ → ℕ) (point : List ℤ) (fields : List Formed) (e : Environment) (n : ℕ) (wanted : Bool) (x : Tree) → Represents point fields e → NumbersWithin limit e → IsCondition limit x → Solves point n x e
    → meets (condition fields n wanted x) point ≡ agree wanted (is_one (value_of x e))

-- where the rows of the divisions hold, the division variables are the quotients
pub record RowsLeaveNoChoice : Type 0 where
  pub numbers : (limit : ℕ → ℕ) (point : List ℤ) (fields : List Formed) (e : Environment) (n : ℕ) (x : Tree) → Represents point fields e → IsNumeric x → not_below_zero point (divisions limit fields n x) ≡ true → Solves point n x e
  pub conditions : (limit : ℕ → ℕ) (point : List ℤ) (fields : List Formed) (e : Environment) (n : ℕ) (x : Tree) → Represents point fields e → IsCondition limit x → not_below_zero point (divisions limit fields n x) ≡ true → Solves point n x e

-- and where they are the quotients, the rows of a narrow expression hold
pub record RowsHoldOfQuotients : Type 0 where
  pub numbers : (limit : ℕ → ℕ) (point : List ℤ) (fields : List Formed) (e : Environment) (n : ℕ) (x : Tree) → Represents point fields e → StaysWithin limit e → IsNumeric x → IsNarrow limit x → Solves point n x e → not_below_zero point (divisions limit fields n x) ≡ true
  pub conditions : (limit : ℕ → ℕ) (point : List ℤ) (fields : List Formed) (e : Environment) (n : ℕ) (x : Tree) → Represents point fields e → StaysWithin limit e → IsCondition limit x → IsNarrow limit x → Solves point n x e → not_below_zero point (divisions limit fields n x) ≡ true

abbrev pub QuotientsSolve : Type 0
QuotientsSolve = (x : Tree) (e : Environment) (front rest : List ℤ) (n : ℕ) → length front ≡ n → Solves (front ++ (quotients x e ++ rest)) n x e

-- ---- paths

-- the fact of a type and a variable holds at the point where the variable has a number of the type
abbrev pub TypesHaveForms : (Domain → ℕ → Form) → List ℤ → Type 0
TypesHaveForms type_form point = (t : Domain) (v : ℕ) → (meets (type_form t v) point ≡ true) ↔ ((n : ℕ) × (get_or point v (pos 0) ≡ pos n) × IsNumberOf t n)

module _ (domains : List Domain) (m : Graph) where
  -- the sums of all fields of a path
  abbrev pub fields_on : List ℕ → List Formed
  fields_on path = formed_after domains m [] 1 (1 + scalars_on domains m (links_on domains m path)) (links_on domains m path)

  -- what holds of each link of the path, holds at the point
  abbrev pub HoldAlong : (Domain → ℕ → Form) → List ℤ → List ℕ → Type 0
  HoldAlong type_form point path = AllByRecursion (HoldsAt domains m (limit_of domains m) type_form point) (steps_of domains m path)

  abbrev pub RowsMakePartial : Type 0
  RowsMakePartial =
      (type_form : Domain → ℕ → Form) (point : List ℤ) (total : ℕ) (path : List ℕ) (end : Node) → TypesHaveForms type_form point → total < 2 ^ 24 → get_or point 0 (pos 0) ≡ pos total → LeadsThrough domains m Start path end → HoldAlong type_form point path
      → (fields : List Placed) × IsPartial domains m total path fields end × Matches point (fields_on path) fields

  abbrev pub PartialMakesRows : Type 0
  PartialMakesRows =
      (type_form : Domain → ℕ → Form) (total : ℕ) (path : List ℕ) (fields : List Placed) (end : Node) → TypesHaveForms type_form (point_of domains m total (links_on domains m path) fields) → IsPartial domains m total path fields end
      → HoldAlong type_form (point_of domains m total (links_on domains m path) fields) path × Matches (point_of domains m total (links_on domains m path) fields) (fields_on path) fields

-- ---- the forms of a path

module _ (domains : List Domain) (m : Graph) where
  -- Whatever the length, and whatever the numbers of its scalars, if they are of their types: the fields of the path are placed.
  abbrev pub NumbersPlaceFields : Type 0
  NumbersPlaceFields = (total : ℕ) (path numbers : List ℕ) → AreNumbersFor domains m (into_fields (links_on domains m path)) numbers → (fields : List Placed) × ArePlacedOn domains m total path fields × (numbers_of domains m fields ≡ map (λ n. pos n) numbers)

  -- At the point of the path its forms have the values of its fields, whether the path is partial or not.
  abbrev pub FormsHaveValues : Type 0
  FormsHaveValues = (total : ℕ) (path out : List ℕ) (fields : List Placed) → ArePlacedOn domains m total path fields → HaveValues domains m total path out fields (point_on domains m total path out fields) (forms_along domains m path out)

  -- The rows of the divisions are those of the links, one link's after the other. At the point of the path those of a link
  -- hold wherever the path is partial up to the link.
  pub record DivisionRowsHold : Type 0 where
    pub by_link : (path out : List ℕ) → (forms_along domains m path out).divisions ≡ flat_map (λ rows. rows) (rows_by_link domains m path out)
    pub hold : (total : ℕ) (path out : List ℕ) (fields : List Placed) (i : ℕ) (rows : List Linear) (node : Node) → ArePlacedOn domains m total path fields → slice_get (rows_by_link domains m path out) i ≡ Some rows → IsPartial domains m total (take i path) (take i fields) node → not_below_zero (point_on domains m total path out fields) rows ≡ true

  -- No other point with so many variables, this length and these numbers meets all rows of the divisions.
  abbrev pub RowsLeaveOnePoint : Type 0
  RowsLeaveOnePoint =
      (total : ℕ) (path out : List ℕ) (fields : List Placed) (rest : List ℤ) → ArePlacedOn domains m total path fields → length (pos total ∷ (numbers_of domains m fields ++ rest)) ≡ variables_along domains m path out
      → not_below_zero (pos total ∷ (numbers_of domains m fields ++ rest)) (forms_along domains m path out).divisions ≡ true → rest ≡ quotients_on domains m total path out fields
