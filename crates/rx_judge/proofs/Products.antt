-- Products of small numbers and low coefficients.
use Rattle.std.proofs.Common.{◌≡◌, refl, Bool, true, false, not, ℕ, ◌+◌, ◌<◌, ◌≤◌, ◌^◌, List, [], ◌∷◌, ◌++◌, map, length, get_or, take, arith}
use Rattle.std.specs.Prelude.{ℤ, pos, negsuc, neg_ℤ, ◌*ℤ◌, ◌<ℤ◌, FitsSigned, unsigned_abs}
use Rattle.std.proofs.lemmas.Int.{ints, fits_signed_mul, to_z-of_z}
use Rattle.std.proofs.lemmas.List.{map-append, take_more}
use mir.Syntax.{w128}
use mir.Val.{to_z, of_z}
use Rattle.rx_types.specs.Coefficients.{IsLow}
use Rattle.rx_types.specs.Value.{IsSmall}

abs_below : (z : ℤ) (m : ℕ) → neg_ℤ (pos m) <ℤ z → z <ℤ pos m → unsigned_abs z ≤ m
abs_below (pos n) m a b = omega (arith, ints)
abs_below (negsuc n) m a b = omega (arith, ints)

pub product_fits : (z c : ℤ) → IsSmall z → IsLow c → FitsSigned w128 (z *ℤ c)
product_fits z c s l = fits_signed_mul w128 z c (2 ^ 100) (2 ^ 20) (abs_below z (2 ^ 100) s.above s.below) (abs_below c (2 ^ 20) l.above l.below) (omega arith)

-- one more item of a mapped list
pub map_more : {A B : Type 0} (f : A → B) (xs : List A) (ys : List B) (i : ℕ) (d : A) (y : B) → i < length xs → ys ≡ map f (take i xs) → y ≡ f (get_or xs i d) → ys ++ y ∷ [] ≡ map f (take (i + 1) xs)
map_more f xs ys i d y l h k = rw (h, k, take_more xs i d l, map-append f (take i xs) (get_or xs i d ∷ [])) refl

abbrev pub passed : ℤ → ℤ
passed z = to_z w128 (of_z w128 z)

-- a product as it is passed
pub passed_product : (z c : ℤ) → IsSmall z → IsLow c → passed (z *ℤ c) ≡ z *ℤ c
passed_product z c s l = to_z-of_z w128 (z *ℤ c) (product_fits z c s l)

pub not_false : (b : Bool) → false ≡ not b → b ≡ true
not_false true h = refl
not_false false h = cc

pub not_true : (b : Bool) → true ≡ not b → b ≡ false
not_true false h = refl
not_true true h = cc
