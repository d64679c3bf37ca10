-- Coefficients of the linear form of an expression. Its unknowns are the leaves as they stand, and the quotient of
-- each `/` and `mod`, an unknown of its own; `a mod k` is a less k times that quotient.
--   coefficient_of u x         the coefficient of a leaf
--   quotient_coefficients x    those of the quotients, in order
--   HasLowCoefficients x       in every part each coefficient is below 2 ^ 20 in magnitude
use Rattle.std.specs.Prelude.{ℕ, ◌^◌, Bool, true, false, ◌==◌, ℤ, pos, ◌+ℤ◌, ◌-ℤ◌, ◌*ℤ◌, ◌<ℤ◌, neg_ℤ, List, [], ◌∷◌, ◌++◌, map, if◌then◌else◌}
use Rattle.std.specs.List.{AllByRecursion}
use Rattle.rx_types.specs.declared.expr.Operator.{Operator}
use Rattle.rx_types.specs.declared.expr.Operator.TheVariants as op
use Rattle.rx_types.specs.Static.{is_static, static_value}
use Rattle.rx_types.specs.Tree.{Tree, Field, First, Last, Size, Total, Neg, Not, Binary}

-- a leaf that is no number
pub data Unknown : Type 0 where
  NumberOf : ℕ → Unknown
  FirstOf : ℕ → Unknown
  LastOf : ℕ → Unknown
  SizeOf : ℕ → Unknown
  Bits : Unknown

abbrev pub is_leaf : Unknown → Tree → Bool
is_leaf (NumberOf f) (Field g) = f == g
is_leaf (FirstOf f) (First g) = f == g
is_leaf (LastOf f) (Last g) = f == g
is_leaf (SizeOf f) (Size g) = f == g
is_leaf Bits Total = true
is_leaf u x = false

-- what an operator makes of the coefficients of its operands
abbrev pub coefficient_by : Operator → Tree → Tree → ℤ → ℤ → ℤ
coefficient_by op.Add a b c d = c +ℤ d
coefficient_by op.Sub a b c d = c -ℤ d
coefficient_by op.Mul a b c d = if is_static a then static_value a *ℤ d else c *ℤ static_value b
coefficient_by op.Mod a b c d = c
coefficient_by o a b c d = pos 0

abbrev pub coefficient_of : Unknown → Tree → ℤ
coefficient_of u (Neg a) = neg_ℤ (coefficient_of u a)
coefficient_of u (Binary o a b) = coefficient_by o a b (coefficient_of u a) (coefficient_of u b)
coefficient_of u x = if is_leaf u x then pos 1 else pos 0

abbrev pub quotients_by : Operator → Tree → Tree → List ℤ → List ℤ → List ℤ
quotients_by op.Add a b cs ds = cs ++ ds
quotients_by op.Sub a b cs ds = cs ++ map neg_ℤ ds
quotients_by op.Mul a b cs ds = if is_static a then map (λ d. static_value a *ℤ d) ds else map (λ c. c *ℤ static_value b) cs
quotients_by op.Div a b cs ds = pos 1 ∷ []
quotients_by op.Mod a b cs ds = cs ++ neg_ℤ (static_value b) ∷ []
quotients_by o a b cs ds = []

abbrev pub quotient_coefficients : Tree → List ℤ
quotient_coefficients (Neg a) = map neg_ℤ (quotient_coefficients a)
quotient_coefficients (Binary o a b) = quotients_by o a b (quotient_coefficients a) (quotient_coefficients b)
quotient_coefficients x = []

pub record IsLow (z : ℤ) : Type 0 where
  pub above : neg_ℤ (pos (2 ^ 20)) <ℤ z
  pub below : z <ℤ pos (2 ^ 20)

pub record AreLow (x : Tree) : Type 0 where
  pub leaves : (u : Unknown) → IsLow (coefficient_of u x)
  pub quotients : AllByRecursion (λ c. IsLow c) (quotient_coefficients x)

abbrev pub HasLowCoefficients : Tree → Type 0
HasLowCoefficients (Neg a) = HasLowCoefficients a
HasLowCoefficients (Not a) = HasLowCoefficients a
HasLowCoefficients (Binary o a b) = AreLow (Binary o a b) × HasLowCoefficients a × HasLowCoefficients b
HasLowCoefficients leaf = Unit {0}
