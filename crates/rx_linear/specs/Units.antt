-- Coefficients of one variable, and rows that bound one variable.
--   coefficient              that of a variable in a row
--   unit_row, is_unit_row    the row with one coefficient
--   at_most, at_least        the rows that bound a variable by a number
use Rattle.std.specs.Prelude.{List, [], ◌∷◌, ℕ, zero, suc, Bool, ◌&&◌, ℤ, pos, negsuc, neg_ℤ, get_or, length, replicate}
use Rattle.std.specs.Cmp.Lexicographic.{pointwise}
use Rattle.std.specs.Ordering.{int_eq}
use Rattle.rx_linear.specs.declared.row.Row.{Row}

-- the coefficient of variable x
abbrev pub coefficient : ℕ → Row → ℤ
coefficient x row = get_or row.coefficients x (pos 0)

-- n coefficients, all 0 but that of variable x
abbrev pub unit : ℕ → ℕ → ℤ → List ℤ
unit zero x a = []
unit (suc n) zero a = a ∷ replicate n (pos 0)
unit (suc n) (suc x) a = pos 0 ∷ unit n x a

-- the row over n variables that has the one coefficient a, of variable x
abbrev pub unit_row : ℕ → ℕ → ℤ → ℤ → Row
unit_row n x a least = record { coefficients = unit n x a; least = least }

-- x is at most c
abbrev pub at_most : ℕ → ℕ → ℤ → Row
at_most n x c = unit_row n x (negsuc 0) (neg_ℤ c)

-- x is at least c
abbrev pub at_least : ℕ → ℕ → ℤ → Row
at_least n x c = unit_row n x (pos 1) c

-- the row has the one coefficient a, of variable x
abbrev pub is_unit_row : ℕ → ℤ → Row → Bool
is_unit_row x a row = int_eq (coefficient x row) a && pointwise int_eq row.coefficients (unit (length row.coefficients) x a)
