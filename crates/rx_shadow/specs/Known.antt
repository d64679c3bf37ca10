-- Lists of known rows.
--   rows_of    the rows alone
--   AllFit     each has so many coefficients and is within the limits
use Rattle.std.specs.Prelude.{List, ℕ, map}
use Rattle.std.specs.List.{All}
use Rattle.rx_linear.specs.declared.row.Row.{Row}
use Rattle.rx_linear.specs.Systems.{FitsSystem}
use Rattle.rx_shadow.specs.declared.known.Known.{Known}

abbrev pub rows_of : List Known → List Row
rows_of known = map (λ k. k.row) known

-- each row has n coefficients and is within the limits
abbrev pub AllFit : ℕ → List Known → Type 0
AllFit n known = All (λ k. FitsSystem n k.row) known
