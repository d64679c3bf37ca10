-- Static and linear expressions, and how many operators an expression has.
--   is_static x           made of numbers and arithmetic alone
--   static_value x        the value of a static expression
--   IsLinear x            each product has a static side, and each divisor is static and at least 1
--   operators_in x        how many operators
use Rattle.std.specs.Prelude.{◌≡◌, ℕ, ◌+◌, ◌≤◌, Bool, true, false, ◌&&◌, ◌||◌, ℤ, pos, ◌<ℤ◌, [], if◌then◌else◌, ◌⊎◌}
use Rattle.std.specs.Ordering.{int_eq}
use Rattle.rx_types.specs.declared.expr.Operator.{Operator}
use Rattle.rx_types.specs.declared.expr.Operator.TheVariants as op
use Rattle.rx_types.specs.Environment.{Environment, in_message}
use Rattle.rx_types.specs.Value.{value_of}
use Rattle.rx_types.specs.Tree.{Tree, Number, Total, Neg, Not, Binary}

-- what makes a number of numbers
abbrev pub is_arithmetic : Operator → Bool
is_arithmetic op.Add = true
is_arithmetic op.Sub = true
is_arithmetic op.Mul = true
is_arithmetic op.Div = true
is_arithmetic op.Mod = true
is_arithmetic o = false

abbrev pub is_static : Tree → Bool
is_static (Number n) = true
is_static (Neg a) = is_static a
is_static (Binary o a b) = is_arithmetic o && is_static a && is_static b
is_static x = false

-- an environment of nothing, in which a static expression has the value that it has everywhere
abbrev pub nothing : Environment
nothing = in_message 0 []

abbrev pub static_value : Tree → ℤ
static_value x = value_of x nothing

abbrev pub IsStaticDivisor : Tree → Type 0
IsStaticDivisor x = (is_static x ≡ true) × (pos 0 <ℤ static_value x)

abbrev pub IsLinearIn : Operator → Tree → Tree → Type 0
IsLinearIn op.Mul a b = (is_static a || is_static b) ≡ true
IsLinearIn op.Div a b = IsStaticDivisor b
IsLinearIn op.Mod a b = IsStaticDivisor b
IsLinearIn o a b = Unit {0}

abbrev pub IsLinear : Tree → Type 0
IsLinear (Neg a) = IsLinear a
IsLinear (Not a) = IsLinear a
IsLinear (Binary o a b) = IsLinearIn o a b × IsLinear a × IsLinear b
IsLinear leaf = Unit {0}

-- the last bit of the message: its length in bits less 1
abbrev pub is_last_of_message : Operator → Tree → Tree → Bool
is_last_of_message op.Sub Total (Number n) = int_eq n (pos 1)
is_last_of_message o a b = false

-- The last bit of the message counts as none.
abbrev pub operators_in : Tree → ℕ
operators_in (Neg a) = operators_in a + 1
operators_in (Not a) = operators_in a + 1
operators_in (Binary o a b) = operators_in a + operators_in b + (if is_last_of_message o a b then 0 else 1)
operators_in leaf = 0

-- at most 256 operators
abbrev pub HasFewOperators : Tree → Type 0
HasFewOperators x = operators_in x ≤ 256

-- a condition of a link, or that of a field and that of a link, joined by `and`
abbrev pub IsJoinOfFew : Tree → Type 0
IsJoinOfFew (Binary op.And a b) = HasFewOperators (Binary op.And a b) ⊎ HasFewOperators a × HasFewOperators b
IsJoinOfFew x = HasFewOperators x
