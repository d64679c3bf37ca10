-- What exact elimination keeps.
--   LosesNoPoint, GainsNoPoint   the integer points of the rows, and of what the elimination of a variable leaves
--   IsRecursive                  repeated elimination is one round, and then the same for what it leaves
use Rattle.std.specs.Prelude.{◌≡◌, ◌<◌, List, ℕ, ℤ, pos, true, set, length}
use Rattle.std.specs.List.{All, list_any}
use Rattle.rx_linear.specs.declared.row.Row.{Row}
use Rattle.rx_linear.specs.Joining.{all_hold}
use Rattle.rx_linear.specs.Units.{is_unit_row}
use Rattle.rx_shadow.specs.Simple.{is_exact, eliminated, round, outcome}

-- each point of rows over n variables satisfies what the elimination of a variable leaves
abbrev pub LosesNoPoint : Type 0
LosesNoPoint =
    (n x : ℕ) (rows : List Row) (point : List ℤ) → x < n → length point ≡ n → All (λ row. length row.coefficients ≡ n) rows
    → all_hold point rows ≡ true → all_hold point (eliminated n x rows) ≡ true

-- each point of what the elimination of an exact variable with a lower unit row leaves satisfies the rows, once the variable has the right number
abbrev pub GainsNoPoint : Type 0
GainsNoPoint =
    (n x : ℕ) (rows : List Row) (point : List ℤ) → x < n → length point ≡ n → is_exact rows x ≡ true → list_any (is_unit_row x (pos 1)) rows ≡ true
    → all_hold point (eliminated n x rows) ≡ true → (number : ℤ) × (all_hold (set point x number) rows ≡ true)

-- what the rows come to is one round, and then what the rows that it leaves come to
abbrev pub IsRecursive : Type 0
IsRecursive = (n : ℕ) (rows : List Row) → outcome n rows ≡ round (outcome n) n rows
