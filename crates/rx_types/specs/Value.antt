-- The value of an expression in an environment. It is a whole number; a truth value is 1 or 0.
--   value_of x e          the value
--   combined o a b        what an operator makes of its operands' values
--   IsEvaluable x e       every part's value is small, and no divisor is below 1
use Rattle.std.specs.Prelude.{◌^◌, ℤ, pos, ◌+ℤ◌, ◌-ℤ◌, ◌*ℤ◌, ◌<ℤ◌, neg_ℤ, Bool, not, ◌&&◌, ◌||◌, if◌then◌else◌}
use Rattle.std.specs.Prelude.{int_lt, int_le}
use Rattle.std.specs.Ordering.{int_eq}
use Rattle.std.specs.Int.{int_div_euclid, int_rem_euclid}
use Rattle.rx_types.specs.Environment.{Environment, place_of, last_of, bits_of}
use Rattle.rx_types.specs.declared.expr.Operator.{Operator}
use Rattle.rx_types.specs.declared.expr.Operator.TheVariants as op
use Rattle.rx_types.specs.Tree.{Tree, Number, Truth, Field, First, Last, Size, Total, Neg, Not, Binary}

-- a truth value as a number
abbrev pub truth_value : Bool → ℤ
truth_value b = if b then pos 1 else pos 0

-- the truth value that a number stands for
abbrev pub is_one : ℤ → Bool
is_one z = int_eq z (pos 1)

-- Sums and products have no width. A quotient is rounded down and a remainder is not below 0, the divisor being at least 1.
abbrev pub combined : Operator → ℤ → ℤ → ℤ
combined op.Add a b = a +ℤ b
combined op.Sub a b = a -ℤ b
combined op.Mul a b = a *ℤ b
combined op.Div a b = int_div_euclid a b
combined op.Mod a b = int_rem_euclid a b
combined op.And a b = truth_value (is_one a && is_one b)
combined op.Or a b = truth_value (is_one a || is_one b)
combined op.Equal a b = truth_value (int_eq a b)
combined op.NotEqual a b = truth_value (not (int_eq a b))
combined op.Less a b = truth_value (int_lt a b)
combined op.LessEqual a b = truth_value (int_le a b)
combined op.Greater a b = truth_value (int_lt b a)
combined op.GreaterEqual a b = truth_value (int_le b a)

-- A field that the environment lacks has number, First and Size 0 and Last -1.
abbrev pub value_of : Tree → Environment → ℤ
value_of (Number n) e = n
value_of (Truth b) e = truth_value b
value_of (Field f) e = pos (place_of f e.fields).number
value_of (First f) e = (place_of f e.fields).first
value_of (Last f) e = last_of (place_of f e.fields)
value_of (Size f) e = (place_of f e.fields).size
value_of Total e = bits_of e
value_of (Neg a) e = neg_ℤ (value_of a e)
value_of (Not a) e = truth_value (not (is_one (value_of a e)))
value_of (Binary o a b) e = combined o (value_of a e) (value_of b e)

-- below 2 ^ 100 in magnitude
pub record IsSmall (z : ℤ) : Type 0 where
  pub above : neg_ℤ (pos (2 ^ 100)) <ℤ z
  pub below : z <ℤ pos (2 ^ 100)

-- a divisor is at least 1
abbrev pub TakesDivisor : Operator → ℤ → Type 0
TakesDivisor op.Div z = pos 0 <ℤ z
TakesDivisor op.Mod z = pos 0 <ℤ z
TakesDivisor o z = Unit {0}

abbrev pub IsEvaluable : Tree → Environment → Type 0
IsEvaluable (Neg a) e = IsSmall (value_of (Neg a) e) × IsEvaluable a e
IsEvaluable (Not a) e = IsSmall (value_of (Not a) e) × IsEvaluable a e
IsEvaluable (Binary o a b) e = IsSmall (value_of (Binary o a b) e) × TakesDivisor o (value_of b e) × IsEvaluable a e × IsEvaluable b e
IsEvaluable leaf e = IsSmall (value_of leaf e)
