-- The known rows that bound a variable.
use Rattle.std.specs.Prelude.{◌≡◌, List, ℕ, ◌⊎◌, true, Bool, not, ◌||◌, pos, negsuc, neg_ℤ, int_lt, Some, None}
use Rattle.std.specs.List.{Contains}
use Rattle.std.specs.Ordering.{int_eq}
use Rattle.rx_linear.specs.Units.{coefficient, is_unit_row}
use Rattle.rx_shadow.specs.declared.known.Known.{Known}
use Rattle.rx_shadow.specs.Bounds.{greatest_lower, least_upper}
use Rattle.rx_shadow.specs.Known.{rows_of}

-- the unit rows of variable x with the greatest lower and the least upper bound
pub record AreBounds (x : ℕ) (known : List Known) (low high : Known) : Type 0 where
  pub lower : greatest_lower x (rows_of known) ≡ Some low.row.least
  pub upper : least_upper x (rows_of known) ≡ Some (neg_ℤ high.row.least)
  pub low_among : Contains known low
  pub high_among : Contains known high
  pub low_unit : is_unit_row x (pos 1) low.row ≡ true
  pub high_unit : is_unit_row x (negsuc 0) high.row ≡ true

-- a bound is missing on one side
abbrev pub LacksBound : ℕ → List Known → Type 0
LacksBound x known = (greatest_lower x (rows_of known) ≡ None) ⊎ (least_upper x (rows_of known) ≡ None)

-- where the coefficient of x is positive it is 1
abbrev pub is_one_if_positive : ℕ → Known → Bool
is_one_if_positive x k = not (int_lt (pos 0) (coefficient x k.row)) || int_eq (coefficient x k.row) (pos 1)

-- where the coefficient of x is negative it is -1
abbrev pub is_one_if_negative : ℕ → Known → Bool
is_one_if_negative x k = not (int_lt (coefficient x k.row) (pos 0)) || int_eq (coefficient x k.row) (negsuc 0)
