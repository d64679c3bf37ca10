-- Rows joined to a system's rows.
use Rattle.std.specs.Prelude.{List, [], ◌∷◌, ◌++◌, Bool, cond, ◌&&◌, ◌||◌, ℤ, pos, int_lt, int_le}
use Rattle.std.specs.List.{list_all, list_any}
use Rattle.std.specs.Ordering.{int_eq}
use Rattle.std.specs.Cmp.Lexicographic.{pointwise}
use Rattle.rx_linear.specs.declared.row.Row.{Row}
use Rattle.rx_model.specs.Sums.{product_sum}
use Rattle.rx_linear.specs.Rows.{tight}

-- `Holds`, as a test
abbrev pub holds : List ℤ → Row → Bool
holds point row = int_le row.least (product_sum row.coefficients point)

abbrev pub all_hold : List ℤ → List Row → Bool
all_hold point rows = list_all (holds point) rows

abbrev pub same_row : Row → Row → Bool
same_row a b = int_eq a.least b.least && pointwise int_eq a.coefficients b.coefficients

abbrev pub has_no_variable : Row → Bool
has_no_variable row = list_all (λ c. int_eq c (pos 0)) row.coefficients

-- without variables, and true
abbrev pub is_true : Row → Bool
is_true row = has_no_variable row && int_le row.least (pos 0)

-- without variables, and false
abbrev pub is_false : Row → Bool
is_false row = has_no_variable row && int_lt (pos 0) row.least

-- a tight row is put at the end, unless it is true of itself or there already
abbrev pub joined_one : List Row → Row → List Row
joined_one rows row = cond (is_true row || list_any (same_row row) rows) rows (rows ++ row ∷ [])

-- each in turn is made tight and joined
abbrev pub joined : List Row → List Row → List Row
joined rows [] = rows
joined rows (row ∷ more) = joined (joined_one rows (tight row)) more
