-- Expressions as linear forms, with one variable for each division.
--   divisions_in x               how many divisions an expression has
--   Formed, formed_of            a field's place and number as sums, and those of a field by its id
--   linear fields n x            the sum that has an expression's value; its divisions have the variables from n on
--   condition fields n wanted x  the fact that holds where a condition is true, or where it is false
--   IsNumeric, IsCondition       what has a sum, and what has a fact
use Rattle.std.specs.Prelude.{◌≡◌, List, [], ◌∷◌, ℕ, ◌+◌, ◌==◌, Bool, true, false, not, ◌||◌, if◌then◌else◌, pos, negsuc, ◌<ℤ◌, Option, Some, None}
use Rattle.rx_types.specs.declared.expr.Operator.{Operator}
use Rattle.rx_types.specs.declared.expr.Operator.TheVariants as op
use Rattle.rx_types.specs.Tree.{Tree, Number, Truth, Field, First, Last, Size, Total, Neg, Not, Binary}
use Rattle.rx_types.specs.Static.{is_static, static_value}
use Rattle.rx_types.specs.Value.{truth_value}
use Rattle.rx_forms.specs.declared.linear.Linear.{Linear}
use Rattle.rx_forms.specs.declared.linear.Form.{Form, All, Any}
use Rattle.rx_forms.specs.Linear.{constant, term, plus, minus, times, less_one, at_least, above, equal, unequal}

-- the truth value that an expression spells out
abbrev pub truth_in : Tree → Option Bool
truth_in (Truth b) = Some b
truth_in x = None

-- ---- division variables

-- How many divisions an expression has. A divisor and the static side of a product are values and have none.
abbrev pub divisions_in : Tree → ℕ
divisions_in (Neg a) = divisions_in a
divisions_in (Not a) = divisions_in a
divisions_in (Binary op.Mul a b) = if is_static a then divisions_in b else divisions_in a
divisions_in (Binary op.Div a b) = divisions_in a + 1
divisions_in (Binary op.Mod a b) = divisions_in a + 1
divisions_in (Binary o a b) = divisions_in a + divisions_in b
divisions_in leaf = 0

-- ---- sums

-- a field's place and number as sums
pub record Formed : Type 0 where
  pub field : ℕ
  pub first : Linear
  pub size : Linear
  pub end : Linear
  pub number : Linear

-- zeros where the field is not among these
abbrev pub formed_of : ℕ → List Formed → Formed
formed_of f [] = record { field = f; first = constant (pos 0); size = constant (pos 0); end = constant (pos 0); number = constant (pos 0) }
formed_of f (p ∷ ps) = if p.field == f then p else formed_of f ps

-- the length of the message in bits; its length in bytes is variable 0
abbrev pub bits : Linear
bits = term (pos 8) 0 (pos 0)

-- The divisions of the left operand come before those of the right one, and the operator's own is the last.
abbrev pub linear : List Formed → ℕ → Tree → Linear
linear fields n (Number k) = constant k
linear fields n (Field f) = (formed_of f fields).number
linear fields n (First f) = (formed_of f fields).first
linear fields n (Last f) = less_one (formed_of f fields).end
linear fields n (Size f) = (formed_of f fields).size
linear fields n Total = bits
linear fields n (Neg a) = times (negsuc 0) (linear fields n a)
linear fields n (Binary op.Add a b) = plus (linear fields n a) (linear fields (n + divisions_in a) b)
linear fields n (Binary op.Sub a b) = minus (linear fields n a) (linear fields (n + divisions_in a) b)
linear fields n (Binary op.Mul a b) = if is_static a then times (static_value a) (linear fields n b) else times (static_value b) (linear fields n a)
linear fields n (Binary op.Div a b) = term (pos 1) (n + divisions_in a) (pos 0)
linear fields n (Binary op.Mod a b) = minus (linear fields n a) (term (static_value b) (n + divisions_in a) (pos 0))
linear fields n truth = constant (pos 0)

-- ---- facts

abbrev pub agree : Bool → Bool → Bool
agree true b = b
agree false b = not b

-- f compared with g, or the opposite
abbrev pub comparison : Operator → Bool → Linear → Linear → Form
comparison op.Equal wanted f g = if wanted then equal f g else unequal f g
comparison op.NotEqual wanted f g = if wanted then unequal f g else equal f g
comparison op.Less wanted f g = if wanted then above g f else at_least f g
comparison op.LessEqual wanted f g = if wanted then at_least g f else above f g
comparison op.Greater wanted f g = if wanted then above f g else at_least g f
comparison op.GreaterEqual wanted f g = if wanted then at_least f g else above g f
comparison o wanted f g = Any []

-- all of two facts, or one of them
abbrev pub joined : Bool → Form → Form → Form
joined all f g = if all then All (f ∷ g ∷ []) else Any (f ∷ g ∷ [])

-- always, or never
abbrev pub settled : Bool → Form
settled b = if b then All [] else Any []

-- A comparison with a spelled truth value is the other side or its negation.
abbrev pub compared : Option Bool → Option Bool → (Bool → Form) → (Bool → Form) → Form → Form
compared (Some t) other left right numbers = right t
compared None (Some t) left right numbers = left t
compared None None left right numbers = numbers

-- The fact of a condition where `wanted` is true, else that of its negation, which is pushed down to the comparisons.
abbrev pub condition : List Formed → ℕ → Bool → Tree → Form
condition fields n wanted (Truth b) = settled (agree wanted b)
condition fields n wanted (Field f) = equal (formed_of f fields).number (constant (truth_value wanted))
condition fields n wanted (Not a) = condition fields n (not wanted) a
condition fields n wanted (Binary op.And a b) = joined wanted (condition fields n wanted a) (condition fields (n + divisions_in a) wanted b)
condition fields n wanted (Binary op.Or a b) = joined (not wanted) (condition fields n wanted a) (condition fields (n + divisions_in a) wanted b)
condition fields n wanted (Binary op.Equal a b) =
    compared (truth_in a) (truth_in b)
    (λ t. condition fields n (agree wanted t) a)
    (λ t. condition fields (n + divisions_in a) (agree wanted t) b)
    (comparison op.Equal wanted (linear fields n a) (linear fields (n + divisions_in a) b))
condition fields n wanted (Binary op.NotEqual a b) =
    compared (truth_in a) (truth_in b)
    (λ t. condition fields n (agree (not wanted) t) a)
    (λ t. condition fields (n + divisions_in a) (agree (not wanted) t) b)
    (comparison op.NotEqual wanted (linear fields n a) (linear fields (n + divisions_in a) b))
condition fields n wanted (Binary o a b) = comparison o wanted (linear fields n a) (linear fields (n + divisions_in a) b)
condition fields n wanted number = Any []

-- ---- what has a sum, and what a fact

-- a number in which each product has a static side, and each divisor is a static number from 1 on
abbrev pub IsNumeric : Tree → Type 0
IsNumeric (Number n) = Unit {0}
IsNumeric (Field f) = Unit {0}
IsNumeric (First f) = Unit {0}
IsNumeric (Last f) = Unit {0}
IsNumeric (Size f) = Unit {0}
IsNumeric Total = Unit {0}
IsNumeric (Neg a) = IsNumeric a
IsNumeric (Binary op.Add a b) = IsNumeric a × IsNumeric b
IsNumeric (Binary op.Sub a b) = IsNumeric a × IsNumeric b
IsNumeric (Binary op.Mul a b) = IsNumeric a × IsNumeric b × ((is_static a || is_static b) ≡ true)
IsNumeric (Binary op.Div a b) = IsNumeric a × (is_static b ≡ true) × (pos 0 <ℤ static_value b)
IsNumeric (Binary op.Mod a b) = IsNumeric a × (is_static b ≡ true) × (pos 0 <ℤ static_value b)
IsNumeric truth = ⊥

-- what has to hold of a comparison's sides: both are numbers, or one is spelled and the other a truth value
abbrev pub IsCompared : Option Bool → Option Bool → Type 0 → Type 0 → Type 0 → Type 0
IsCompared (Some t) other left right numbers = right
IsCompared None (Some t) left right numbers = left
IsCompared None None left right numbers = numbers

-- a truth value; a field that is one has no number above 1
abbrev pub IsCondition : (ℕ → ℕ) → Tree → Type 0
IsCondition limit (Truth b) = Unit {0}
IsCondition limit (Field f) = limit f ≡ 1
IsCondition limit (Not a) = IsCondition limit a
IsCondition limit (Binary op.And a b) = IsCondition limit a × IsCondition limit b
IsCondition limit (Binary op.Or a b) = IsCondition limit a × IsCondition limit b
IsCondition limit (Binary op.Equal a b) = IsCompared (truth_in a) (truth_in b) (IsCondition limit a) (IsCondition limit b) (IsNumeric a × IsNumeric b)
IsCondition limit (Binary op.NotEqual a b) = IsCompared (truth_in a) (truth_in b) (IsCondition limit a) (IsCondition limit b) (IsNumeric a × IsNumeric b)
IsCondition limit (Binary op.Less a b) = IsNumeric a × IsNumeric b
IsCondition limit (Binary op.LessEqual a b) = IsNumeric a × IsNumeric b
IsCondition limit (Binary op.Greater a b) = IsNumeric a × IsNumeric b
IsCondition limit (Binary op.GreaterEqual a b) = IsNumeric a × IsNumeric b
IsCondition limit number = ⊥
