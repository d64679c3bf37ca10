-- The greatest common divisor of a row's coefficients, and division by it.
use Rattle.std.specs.Prelude.{List, [], ◌∷◌, ℕ, zero, suc, ◌+◌, ◌%◌, Bool, cond, ◌==◌, ℤ, pos, neg_ℤ, unsigned_abs}
use Rattle.std.specs.List.{All, list_all}
use Rattle.std.specs.Int.{◌∣◌, int_div_euclid}

-- the greatest number up to n that passes the test, or 0
unfoldable pub greatest : (ℕ → Bool) → ℕ → ℕ
greatest test zero = 0
greatest test (suc n) = cond (test (suc n)) (suc n) (greatest test n)

abbrev pub divides_all : List ℤ → ℕ → Bool
divides_all cs d = list_all (λ c. (unsigned_abs c % d) == 0) cs

abbrev pub sum_of_magnitudes : List ℤ → ℕ
sum_of_magnitudes [] = 0
sum_of_magnitudes (c ∷ cs) = unsigned_abs c + sum_of_magnitudes cs

-- the greatest common divisor, or 0 where all coefficients are 0
unfoldable pub common_divisor_of : List ℤ → ℕ
common_divisor_of cs = greatest (divides_all cs) (sum_of_magnitudes cs)

-- the same as a relation
abbrev pub IsCommonDivisor : List ℤ → ℕ → Type 0
IsCommonDivisor cs d = All (λ c. d ∣ unsigned_abs c) cs

abbrev pub IsGreatestCommonDivisor : List ℤ → ℕ → Type 0
IsGreatestCommonDivisor cs g = IsCommonDivisor cs g × ((d : ℕ) → IsCommonDivisor cs d → d ∣ g)

-- z divided by d and rounded up
abbrev pub divided_up : ℤ → ℕ → ℤ
divided_up z d = neg_ℤ (int_div_euclid (neg_ℤ z) (pos d))

-- z divided by d and rounded down
abbrev pub divided_down : ℤ → ℕ → ℤ
divided_down z d = int_div_euclid z (pos d)
