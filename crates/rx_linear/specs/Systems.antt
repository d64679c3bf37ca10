-- Systems of rows over the same variables.
use Rattle.std.specs.Prelude.{List, ℕ, ◌≡◌, ◌≤◌, length}
use Rattle.std.specs.List.{All}
use Rattle.rx_linear.specs.declared.row.Row.{Row}
use Rattle.rx_linear.specs.Rows.{Narrow}

-- how many variables there are, and the rows over them
pub record LinearSystem : Type 0 where
  pub variables : ℕ
  pub rows : List Row

abbrev pub FitsSystem : ℕ → Row → Type 0
FitsSystem variables row = (length row.coefficients ≡ variables) × Narrow row

abbrev pub IsWithinLimits : ℕ → List Row → Type 0
IsWithinLimits variables rows = (variables ≤ 192) × All (FitsSystem variables) rows
