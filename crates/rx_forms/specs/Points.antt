-- Points, the numbers of all variables, and what they say of fields and divisions. That of a partial path has its length, the
-- numbers of its scalars, and the quotients of its divisions.
--   HasPlace, Represents      the sums of a field, and of all fields, have its place and number at the point
--   Solves point n x e        from variable n on, the point has the quotients of the expression's divisions
--   Matches                   the sums of these fields have their places and numbers, one after the other
--   numbers_of, quotients_along, point_of    the numbers of the scalars of a path, the quotients, and all behind the length
use Rattle.std.specs.Prelude.{◌≡◌, List, [], ◌∷◌, ◌++◌, ℕ, ◌+◌, Bool, true, false, get_or, ℤ, pos, ◌+ℤ◌, Option, Some, None}
use Rattle.std.specs.Int.{int_div_euclid}
use Rattle.rx_types.specs.declared.expr.Operator.TheVariants as op
use Rattle.rx_types.specs.Tree.{Tree, Neg, Not, Binary}
use Rattle.rx_types.specs.Environment.{Environment, Placed, in_message, place_of}
use Rattle.rx_types.specs.Static.{is_static, static_value}
use Rattle.rx_types.specs.Value.{value_of}
use Rattle.rx_types.specs.Domain.{Domain}
use Rattle.rx_graph.specs.Graph.{Arrow, Graph, type_of}
use Rattle.rx_forms.specs.Linear.{at}
use Rattle.rx_forms.specs.Normal.{Formed, formed_of, divisions_in}
use Rattle.rx_forms.specs.Divisions.{quotients}
use Rattle.rx_forms.specs.Steps.{size_aspect}

-- the sums of a place have its numbers
pub record HasPlace (point : List ℤ) (f : Formed) (p : Placed) : Type 0 where
  pub first : at f.first point ≡ p.first
  pub size : at f.size point ≡ p.size
  pub end : at f.end point ≡ p.first +ℤ p.size
  pub number : at f.number point ≡ pos p.number

-- variable 0 is the length, and the sums of the fields have their places and numbers
pub record Represents (point : List ℤ) (fields : List Formed) (e : Environment) : Type 0 where
  pub total : get_or point 0 (pos 0) ≡ pos e.total
  pub places : (f : ℕ) → HasPlace point (formed_of f fields) (place_of f e.fields)

abbrev pub Chosen : Bool → Type 0 → Type 0 → Type 0
Chosen true one other = one
Chosen false one other = other

-- from variable n on, the point has the quotients of the expression's divisions
abbrev pub Solves : List ℤ → ℕ → Tree → Environment → Type 0
Solves point n (Neg a) e = Solves point n a e
Solves point n (Not a) e = Solves point n a e
Solves point n (Binary op.Mul a b) e = Chosen (is_static a) (Solves point n b e) (Solves point n a e)
Solves point n (Binary op.Div a b) e = Solves point n a e × (get_or point (n + divisions_in a) (pos 0) ≡ int_div_euclid (value_of a e) (static_value b))
Solves point n (Binary op.Mod a b) e = Solves point n a e × (get_or point (n + divisions_in a) (pos 0) ≡ int_div_euclid (value_of a e) (static_value b))
Solves point n (Binary o a b) e = Solves point n a e × Solves point (n + divisions_in a) b e
Solves point n leaf e = Unit {0}

abbrev pub SolvesAny : List ℤ → ℕ → Option Tree → Environment → Type 0
SolvesAny point n None e = Unit {0}
SolvesAny point n (Some x) e = Solves point n x e

-- the sums have the places and numbers of these fields
abbrev pub Matches : List ℤ → List Formed → List Placed → Type 0
Matches point [] [] = Unit {0}
Matches point [] (p ∷ ps) = ⊥
Matches point (g ∷ gs) [] = ⊥
Matches point (g ∷ gs) (p ∷ ps) = (g.field ≡ p.field) × HasPlace point g p × Matches point gs ps

-- ---- the point of a partial path

abbrev pub quotients_any : Option Tree → Environment → List ℤ
quotients_any None e = []
quotients_any (Some x) e = quotients x e

abbrev pub number_if : Option Domain → ℕ → List ℤ
number_if (Some t) n = pos n ∷ []
number_if None n = []

module _ (domains : List Domain) (m : Graph) where
  -- the numbers of the scalars among the fields
  abbrev pub numbers_of : List Placed → List ℤ
  numbers_of [] = []
  numbers_of (p ∷ fields) = number_if (type_of domains m p.field) p.number ++ numbers_of fields

  abbrev pub quotients_along : ℕ → List Placed → List Arrow → List Placed → List ℤ
  quotients_along total before (link ∷ links) (p ∷ fields) =
      quotients link.condition (in_message total before)
      ++ (quotients_any link.first (in_message total before)
      ++ (quotients_any (size_aspect (type_of domains m p.field) link.size) (in_message total before)
      ++ quotients_along total (before ++ p ∷ []) links fields))
  quotients_along total before links fields = []

  abbrev pub point_of : ℕ → List Arrow → List Placed → List ℤ
  point_of total links fields = pos total ∷ (numbers_of fields ++ quotients_along total [] links fields)
