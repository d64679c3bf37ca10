-- What sums and products of bounded numbers stay below.
use Rattle.std.proofs.Common.{◌≡◌, ◌∙◌, ℕ, ◌+◌, ◌*◌, ◌<◌, ◌^◌, arith, ℤ, ◌+ℤ◌, ◌*ℤ◌, unsigned_abs, FitsSigned, to_z, of_z}
use Rattle.std.specs.Int.{w128}
use Rattle.std.proofs.lemmas.Int.{ints, to_z-of_z, unsigned_abs-mul, fits_signed_from_abs}

pub product_below : (a b : ℤ) (m n : ℕ) → unsigned_abs a < m → unsigned_abs b < n → unsigned_abs (a *ℤ b) < m * n
product_below a b m n p q = rw (unsigned_abs-mul a b) (nat_product_below (unsigned_abs a) (unsigned_abs b) m n p q)
  where
    nat_product_below : (x y m n : ℕ) → x < m → y < n → x * y < m * n
    nat_product_below x y m n p q = grind arith

pub sum_below : (a b : ℤ) (m n : ℕ) → unsigned_abs a < m → unsigned_abs b < n → unsigned_abs (a +ℤ b) < m + n
sum_below a b m n p q = omega (arith, ints)

pub weighted_below : (l a r b : ℤ) (m n : ℕ) → unsigned_abs l < n → unsigned_abs r < n → unsigned_abs a < m → unsigned_abs b < m → unsigned_abs (a *ℤ l +ℤ b *ℤ r) < m * n + m * n
weighted_below l a r b m n hl hr ha hb =
    sum_below (a *ℤ l) (b *ℤ r) (m * n) (m * n) (product_below a l m n ha hl) (product_below b r m n hb hr)

pub weighted_fits : (l a r b : ℤ) → unsigned_abs l < 2 ^ 100 → unsigned_abs r < 2 ^ 100 → unsigned_abs a < 2 ^ 20 → unsigned_abs b < 2 ^ 20 → FitsSigned w128 (a *ℤ l +ℤ b *ℤ r)
weighted_fits l a r b hl hr ha hb =
    fits_signed_from_abs w128 _ (let h = weighted_below l a r b (2 ^ 20) (2 ^ 100) hl hr ha hb in omega (arith, h))

pub product_fits : (l a : ℤ) → unsigned_abs l < 2 ^ 100 → unsigned_abs a < 2 ^ 20 → FitsSigned w128 (a *ℤ l)
product_fits l a hl ha = fits_signed_from_abs w128 _ (let h = product_below a l (2 ^ 20) (2 ^ 100) ha hl in omega (arith, h))

-- the same two facts as the code's cast values have them
pub weighted_code_fits : (l a r b : ℤ) → FitsSigned w128 l → FitsSigned w128 a → FitsSigned w128 r → FitsSigned w128 b → unsigned_abs l < 2 ^ 100 → unsigned_abs r < 2 ^ 100 → unsigned_abs a < 2 ^ 20 → unsigned_abs b < 2 ^ 20 → FitsSigned w128 (to_z w128 (of_z w128 (to_z w128 (of_z w128 a) *ℤ to_z w128 (of_z w128 l))) +ℤ to_z w128 (of_z w128 (to_z w128 (of_z w128 b) *ℤ to_z w128 (of_z w128 r))))
weighted_code_fits l a r b fl fa fr fb hl hr ha hb =
    let fal : FitsSigned w128 (a *ℤ l) = product_fits l a hl ha in
    let fbr : FitsSigned w128 (b *ℤ r) = product_fits r b hr hb in
    simp to_z-of_z (weighted_fits l a r b hl hr ha hb)

pub weighted_code_is : (l a r b : ℤ) → FitsSigned w128 l → FitsSigned w128 a → FitsSigned w128 r → FitsSigned w128 b → unsigned_abs l < 2 ^ 100 → unsigned_abs r < 2 ^ 100 → unsigned_abs a < 2 ^ 20 → unsigned_abs b < 2 ^ 20 → to_z w128 (of_z w128 (to_z w128 (of_z w128 (to_z w128 (of_z w128 a) *ℤ to_z w128 (of_z w128 l))) +ℤ to_z w128 (of_z w128 (to_z w128 (of_z w128 b) *ℤ to_z w128 (of_z w128 r))))) ≡ a *ℤ l +ℤ b *ℤ r
weighted_code_is l a r b fl fa fr fb hl hr ha hb =
    let fal : FitsSigned w128 (a *ℤ l) = product_fits l a hl ha in
    let fbr : FitsSigned w128 (b *ℤ r) = product_fits r b hr hb in
    let fs : FitsSigned w128 (a *ℤ l +ℤ b *ℤ r) = weighted_fits l a r b hl hr ha hb in
    simp to_z-of_z

pub narrow_fits : (z : ℤ) → unsigned_abs z < 2 ^ 20 → FitsSigned w128 z
narrow_fits z h = fits_signed_from_abs w128 z (omega (arith, h))

pub constant_fits : (z : ℤ) → unsigned_abs z < 2 ^ 100 → FitsSigned w128 z
constant_fits z h = fits_signed_from_abs w128 z (omega (arith, h))

-- what the code's cast values give
pub weighted_call : (l a r b w : ℤ) → FitsSigned w128 a → FitsSigned w128 b → FitsSigned w128 l → FitsSigned w128 r → w ≡ to_z w128 (of_z w128 a) *ℤ to_z w128 (of_z w128 l) +ℤ to_z w128 (of_z w128 b) *ℤ to_z w128 (of_z w128 r) → w ≡ a *ℤ l +ℤ b *ℤ r
weighted_call l a r b w fa fb fl fr e = e ∙ simp to_z-of_z

pub wide_fits : (z : ℤ) → unsigned_abs z < 2 ^ 41 → FitsSigned w128 z
wide_fits z h = fits_signed_from_abs w128 z (omega (arith, h))

pub wide_constant_fits : (z : ℤ) → unsigned_abs z < 2 ^ 121 → FitsSigned w128 z
wide_constant_fits z h = fits_signed_from_abs w128 z (omega (arith, h))
