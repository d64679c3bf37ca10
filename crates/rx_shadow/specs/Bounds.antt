-- The unit bounds of a variable, and the narrowest variable.
--   greatest_lower, least_upper   the greatest lower and the least upper bound that unit rows give
--   bounds_clash, fixed_value     no value is left between them, or one
--   HasUnitRows, IsBounded        which variables have unit rows
--   width, narrowest              one less than the number of values, and the variable with the fewest of two or more
--   middle                        the middle of a variable's values
use Rattle.std.specs.Prelude.{◌≡◌, ◌<◌, ◌⊎◌, true, List, [], ◌∷◌, ℕ, zero, suc, Bool, false, cond, ◌&&◌, ◌||◌, ℤ, pos, negsuc, neg_ℤ, ◌-ℤ◌, ◌+ℤ◌, int_lt, int_le, map, take, drop, ◌+◌, Option, Some, None}
use Rattle.std.specs.List.{filter, fold, list_all, list_any}
use Rattle.std.specs.Int.{int_max, int_min, int_div_euclid}
use Rattle.std.specs.Ordering.{int_eq}
use Rattle.rx_linear.specs.declared.row.Row.{Row}
use Rattle.rx_linear.specs.Units.{coefficient, is_unit_row}

-- all numbers but the one at place x are 0
abbrev pub zero_elsewhere : ℕ → List ℤ → Bool
zero_elsewhere x zs = list_all (λ z. int_eq z (pos 0)) (take x zs) && list_all (λ z. int_eq z (pos 0)) (drop (x + 1) zs)

-- the lower bounds that the unit rows of variable x give
abbrev pub lower_bounds : ℕ → List Row → List ℤ
lower_bounds x rows = map (λ row. row.least) (filter (is_unit_row x (pos 1)) rows)

-- the upper bounds that the unit rows of variable x give
abbrev pub upper_bounds : ℕ → List Row → List ℤ
upper_bounds x rows = map (λ row. neg_ℤ row.least) (filter (is_unit_row x (negsuc 0)) rows)

abbrev pub greatest_of : List ℤ → Option ℤ
greatest_of [] = None
greatest_of (z ∷ zs) = Some (fold int_max z zs)

-- the greater of the best so far and one more
abbrev pub raised : Option ℤ → ℤ → ℤ
raised None z = z
raised (Some best) z = int_max best z

abbrev pub least_of : List ℤ → Option ℤ
least_of [] = None
least_of (z ∷ zs) = Some (fold int_min z zs)

-- the greatest lower unit bound of variable x
abbrev pub greatest_lower : ℕ → List Row → Option ℤ
greatest_lower x rows = greatest_of (lower_bounds x rows)

-- the least upper unit bound of variable x
abbrev pub least_upper : ℕ → List Row → Option ℤ
least_upper x rows = least_of (upper_bounds x rows)

abbrev pub exceeds : Option ℤ → Option ℤ → Bool
exceeds None high = false
exceeds (Some low) None = false
exceeds (Some low) (Some high) = int_lt high low

-- the greatest lower bound of variable x exceeds its least upper one
abbrev pub bounds_clash : ℕ → List Row → Bool
bounds_clash x rows = exceeds (greatest_lower x rows) (least_upper x rows)

abbrev pub common_value : Option ℤ → Option ℤ → Option ℤ
common_value None high = None
common_value (Some low) None = None
common_value (Some low) (Some high) = cond (int_eq low high) (Some low) None

-- the value of variable x, where its greatest lower bound is its least upper one
abbrev pub fixed_value : ℕ → List Row → Option ℤ
fixed_value x rows = common_value (greatest_lower x rows) (least_upper x rows)

-- each variable below n occurs in no row, or has a unit row with the coefficient a
abbrev pub IsBounded : ℤ → ℕ → List Row → Type 0
IsBounded a n rows = (x : ℕ) → x < n → (list_all (λ row. int_eq (coefficient x row) (pos 0)) rows ≡ true) ⊎ (list_any (is_unit_row x a) rows ≡ true)

-- variable x has a lower and an upper unit row
abbrev pub has_unit_rows : ℕ → List Row → Bool
has_unit_rows x rows = list_any (is_unit_row x (pos 1)) rows && list_any (is_unit_row x (negsuc 0)) rows

-- each variable below n has a lower and an upper unit row
abbrev pub HasUnitRows : ℕ → List Row → Type 0
HasUnitRows n rows = (x : ℕ) → x < n → has_unit_rows x rows ≡ true

abbrev pub width_between : Option ℤ → Option ℤ → ℤ
width_between None high = pos 0
width_between (Some low) None = pos 0
width_between (Some low) (Some high) = high -ℤ low

-- one less than the number of values that variable x has between its unit bounds
abbrev pub width : List Row → ℕ → ℤ
width rows x = width_between (greatest_lower x rows) (least_upper x rows)

-- x has two or more values, and y has fewer than two or more than x
abbrev pub is_narrower : List Row → ℕ → ℕ → Bool
is_narrower rows x y = int_lt (pos 0) (width rows x) && (int_le (width rows y) (pos 0) || int_lt (width rows x) (width rows y))

-- among the variables below n the one with the fewest values of those with two or more, on a tie the least; 0 where there is none
abbrev pub narrowest : ℕ → List Row → ℕ
narrowest zero rows = 0
narrowest (suc n) rows = cond (is_narrower rows n (narrowest n rows)) n (narrowest n rows)

abbrev pub middle_between : Option ℤ → Option ℤ → ℤ
middle_between None high = pos 0
middle_between (Some low) None = pos 0
middle_between (Some low) (Some high) = low +ℤ int_div_euclid (high -ℤ low) (pos 2)

-- the middle of the values that variable x has between its unit bounds, rounded down
abbrev pub middle : ℕ → List Row → ℤ
middle x rows = middle_between (greatest_lower x rows) (least_upper x rows)
