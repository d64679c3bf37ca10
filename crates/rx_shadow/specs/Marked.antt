-- The only variable of a row.
--   IsAlone cs one     all numbers but the one at this place are 0, and it is this one
--   Tells alone row    what is known of a row: its only variable, or that it has the only coefficient of no variable
use Rattle.std.specs.Prelude.{◌≡◌, ◌≢◌, ◌<◌, List, ℕ, true, false, ℤ, pos, length, get_or, Option, Some, None}
use Rattle.rx_linear.specs.declared.row.Row.{Row}
use Rattle.rx_linear.specs.Units.{is_unit_row}
use Rattle.rx_shadow.specs.declared.marked.Alone.{Alone}
use Rattle.rx_shadow.specs.Bounds.{zero_elsewhere}

pub record IsAlone (cs : List ℤ) (one : Alone) : Type 0 where
  pub within : one.variable < length cs
  pub zero : zero_elsewhere one.variable cs ≡ true
  pub is : get_or cs one.variable (pos 0) ≡ one.coefficient

abbrev pub Tells : Option Alone → Row → Type 0
Tells None row = (x : ℕ) (a : ℤ) → x < length row.coefficients → a ≢ pos 0 → is_unit_row x a row ≡ false
Tells (Some one) row = IsAlone row.coefficients one
