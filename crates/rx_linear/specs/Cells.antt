-- Rows in one flat buffer: a row over n variables is n + 1 numbers, its constant last.
--   row_of     the row that a buffer begins with
--   rows_of    the rows that a buffer begins with
--   Stacked    what a stack of rows is to its callers
--   can_combine  whether two rows may be combined
--   Pushes     what a step does to a stack
use Rattle.std.specs.Prelude.{◌≡◌, ◌+◌, ◌*◌, ◌≤◌, List, [], ◌∷◌, ◌++◌, ℕ, zero, suc, ℤ, pos, take, drop, get_or, length, Bool, true, false, Option, Some, None, ◌&&◌, nat_lt}
use Rattle.std.specs.List.{All}
use Rattle.rx_linear.specs.declared.row.Row.{Row}
use Rattle.rx_linear.specs.Rows.{Wide, is_multiplier, is_narrow}

-- the row over n variables that the cells begin with
abbrev pub row_of : ℕ → List ℤ → Row
row_of n cells = record { coefficients = take n cells; least = get_or cells n (pos 0) }

-- the first k rows over n variables in the cells
abbrev pub rows_of : ℕ → ℕ → List ℤ → List Row
rows_of n zero cells = []
rows_of n (suc k) cells = row_of n cells ∷ rows_of n k (drop (n + 1) cells)

-- rows over some variables, at most `limit` of them
pub record Stacked : Type 0 where
  pub variables : ℕ
  pub rows : List Row
  pub limit : ℕ

-- the first k rows over n variables in the cells, at most `limit` of them
abbrev pub stacked : ℕ → ℕ → ℕ → List ℤ → Stacked
stacked n k limit cells = record { variables = n; rows = rows_of n k cells; limit = limit }

-- the row is one of the first k, and within the limits
abbrev pub is_narrow_row : ℕ → ℕ → List ℤ → ℕ → Bool
is_narrow_row n k cells i = nat_lt i k && is_narrow (row_of n (drop (i * (n + 1)) cells))

-- two of the first k rows are there and within the limits, and so are their multipliers
abbrev pub can_combine : ℕ → ℕ → List ℤ → ℕ → ℤ → ℕ → ℤ → Bool
can_combine n k cells left a right b = is_multiplier a && is_multiplier b && is_narrow_row n k cells left && is_narrow_row n k cells right

-- the cells have room for `limit` rows, the first k of which are within the limits of what steps give
pub record IsStack (n k limit : ℕ) (cells : List ℤ) : Type 0 where
  pub few : n ≤ 192
  pub within : k ≤ limit
  pub size : length cells ≡ limit * (n + 1)
  pub wide : All Wide (rows_of n k cells)

-- a row that is given is put at the end, and where none is given the rows stay
abbrev pub Pushes : List Row → Option Row → Bool → List Row → Type 0
Pushes old None taken new = (taken ≡ false) × (new ≡ old)
Pushes old (Some row) taken new = (taken ≡ true) × (new ≡ old ++ row ∷ [])
