-- Rows over whole numbers, their sums and their tightening.
--   Holds                   a row is true at a point
--   combined, tight         the sum of two rows, and the tight row
--   Narrow, Wide            the limits of a row that may be combined, and of what two such rows give
--   is_narrow, is_multiplier  the limits as tests
use Rattle.std.specs.Prelude.{List, map, max, ℕ, ◌<◌, ◌^◌, ℤ, pos, ◌+ℤ◌, ◌*ℤ◌, ◌≤ℤ◌, unsigned_abs, Bool, ◌&&◌, nat_lt, int_le}
use Rattle.std.specs.List.{All, list_all}
use Rattle.rx_model.specs.Sums.{product_sum, weighted_sum}
use Rattle.rx_linear.specs.Divisors.{common_divisor_of, divided_up, divided_down}
use Rattle.rx_linear.specs.declared.row.Row.{Row}

-- the row is true where the variables have the point's numbers
abbrev pub Holds : Row → List ℤ → Type 0
Holds row point = row.least ≤ℤ product_sum row.coefficients point

-- the sum of two rows, each times its multiplier
abbrev pub combined : Row → ℤ → Row → ℤ → Row
combined left a right b =
    record { coefficients = weighted_sum left.coefficients a right.coefficients b; least = a *ℤ left.least +ℤ b *ℤ right.least }

-- each number is below the limit in magnitude
abbrev pub AllBelow : ℕ → List ℤ → Type 0
AllBelow limit zs = All (λ z. unsigned_abs z < limit) zs

-- the limits of a row that may be combined
abbrev pub Narrow : Row → Type 0
Narrow row = AllBelow (2 ^ 20) row.coefficients × (unsigned_abs row.least < 2 ^ 100)

-- the limits of what two narrow rows give
abbrev pub Wide : Row → Type 0
Wide row = AllBelow (2 ^ 41) row.coefficients × (unsigned_abs row.least < 2 ^ 121)

-- a number by which a row may be multiplied in a sum
abbrev pub IsMultiplier : ℤ → Type 0
IsMultiplier k = (pos 0 ≤ℤ k) × (unsigned_abs k < 2 ^ 20)

-- `AllBelow`, as a test
abbrev pub all_below : ℕ → List ℤ → Bool
all_below limit zs = list_all (λ z. nat_lt (unsigned_abs z) limit) zs

-- `Narrow`, as a test
abbrev pub is_narrow : Row → Bool
is_narrow row = all_below (2 ^ 20) row.coefficients && nat_lt (unsigned_abs row.least) (2 ^ 100)

-- `IsMultiplier`, as a test
abbrev pub is_multiplier : ℤ → Bool
is_multiplier k = int_le (pos 0) k && nat_lt (unsigned_abs k) (2 ^ 20)

-- the number by which a row is tightened: 1 where it has no variable
abbrev pub divisor_of : Row → ℕ
divisor_of row = max 1 (common_divisor_of row.coefficients)

-- divided by the greatest common divisor of its coefficients, with its constant rounded up
abbrev pub tight : Row → Row
tight row = record {
  coefficients = map (λ c. divided_down c (divisor_of row)) row.coefficients;
  least = divided_up row.least (divisor_of row);
}
