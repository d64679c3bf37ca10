-- Sums that stay within the path limit may be the rows of a system.
use Rattle.std.proofs.Common.{◌≡◌, refl, ℕ, zero, suc, ◌+◌, ◌<◌, ◌≤◌, ◌^◌, arith, List, [], ◌∷◌, ◌++◌, length, replicate, true, ℤ, pos, negsuc, ◌+ℤ◌, ◌-ℤ◌, ◌*ℤ◌, unsigned_abs}
use Rattle.std.specs.Prelude.{nat_le, nat_lt}
use Rattle.std.specs.List.{list_all}
use Rattle.std.proofs.lemmas.Int.{ints}
use Rattle.rx_model.specs.Sums.{weighted_sum}
use Rattle.rx_linear.specs.Rows.{all_below}
use Rattle.rx_linear.proofs.Joining.{both, and_true}
use Rattle.rx_forms.specs.declared.linear.Linear.{Linear}
use Rattle.rx_forms.specs.Linear.{minus, less_one}
use Rattle.rx_forms.specs.Limits.{is_low}
use Rattle.rx_layout.specs.Fitting.{fits_row}
pub use Rattle.rx_layout.specs.Fitting.{IsLowTo}

below : (a b : ℕ) → nat_lt a b ≡ true → a < b
below a b e = grind (arith, e)

pub is_below : (a b : ℕ) → a < b → nat_lt a b ≡ true
is_below a b h = grind (arith, h)

is_up_to : (a b : ℕ) → a ≤ b → nat_le a b ≡ true
is_up_to a b h = grind (arith, h)

-- ---- numbers below a limit in magnitude

abbrev pub Under : ℕ → List ℤ → Type 0
Under k zs = all_below k zs ≡ true

pub under_more : (j k : ℕ) (zs : List ℤ) → j ≤ k → Under j zs → Under k zs
under_more j k [] h a = refl
under_more j k (z ∷ zs) h a =
    let p = both {a = nat_lt (unsigned_abs z) j} a in
    and_true (more (unsigned_abs z) j k h (below (unsigned_abs z) j p.0)) (under_more j k zs h p.1)
  where
    more : (n j k : ℕ) → j ≤ k → n < j → nat_lt n k ≡ true
    more n j k h b = is_below n k (omega (arith, h, b))

less_bound : (l r : ℤ) (j k : ℕ) → unsigned_abs l < j → unsigned_abs r < k → unsigned_abs (pos 1 *ℤ l +ℤ negsuc 0 *ℤ r) < j + k
less_bound l r j k h e = omega (arith, ints, h, e)

left_bound : (l : ℤ) (j k : ℕ) → unsigned_abs l < j → unsigned_abs (pos 1 *ℤ l) < j + k
left_bound l j k h = omega (arith, ints, h)

right_bound : (r : ℤ) (j k : ℕ) → unsigned_abs r < k → unsigned_abs (negsuc 0 *ℤ r) < j + k
right_bound r j k h = omega (arith, ints, h)

pub minus_under : (ls rs : List ℤ) (j k : ℕ) → Under j ls → Under k rs → Under (j + k) (weighted_sum ls (pos 1) rs (negsuc 0))
minus_under [] [] j k a b = refl
minus_under [] (r ∷ rs) j k a b =
    let p = both {a = nat_lt (unsigned_abs r) k} b in
    and_true (is_below (unsigned_abs (negsuc 0 *ℤ r)) (j + k) (right_bound r j k (below (unsigned_abs r) k p.0))) (minus_under [] rs j k a p.1)
minus_under (l ∷ ls) [] j k a b =
    let p = both {a = nat_lt (unsigned_abs l) j} a in
    and_true (is_below (unsigned_abs (pos 1 *ℤ l)) (j + k) (left_bound l j k (below (unsigned_abs l) j p.0))) (minus_under ls [] j k p.1 b)
minus_under (l ∷ ls) (r ∷ rs) j k a b =
    let p = both {a = nat_lt (unsigned_abs l) j} a in
    let q = both {a = nat_lt (unsigned_abs r) k} b in
    and_true (is_below (unsigned_abs (pos 1 *ℤ l +ℤ negsuc 0 *ℤ r)) (j + k) (less_bound l r j k (below (unsigned_abs l) j p.0) (below (unsigned_abs r) k q.0))) (minus_under ls rs j k p.1 q.1)

-- a sum less a multiple of a variable that it does not have
pub less_term_under : (ls : List ℤ) (q : ℕ) (k : ℤ) → length ls ≤ q → Under (2 ^ 18) ls → unsigned_abs k < 2 ^ 20 → Under (2 ^ 20) (weighted_sum ls (pos 1) (replicate q (pos 0) ++ k ∷ []) (negsuc 0))
less_term_under [] zero k h a b = and_true (is_below (unsigned_abs (negsuc 0 *ℤ k)) (2 ^ 20) (omega (arith, ints, b))) refl
less_term_under [] (suc q) k h a b = less_term_under [] q k (omega arith) a b
less_term_under (l ∷ ls) zero k h a b = absurd (omega (arith, h))
less_term_under (l ∷ ls) (suc q) k h a b =
    let p = both {a = nat_lt (unsigned_abs l) (2 ^ 18)} a in
    and_true (is_below (unsigned_abs (pos 1 *ℤ l +ℤ negsuc 0 *ℤ pos 0)) (2 ^ 20) (head l (below (unsigned_abs l) (2 ^ 18) p.0))) (less_term_under ls q k (omega (arith, h)) p.1 b)
  where
    head : (l : ℤ) → unsigned_abs l < 2 ^ 18 → unsigned_abs (pos 1 *ℤ l +ℤ negsuc 0 *ℤ pos 0) < 2 ^ 20
    head l h = omega (arith, ints, h)

-- and the other way round
pub term_less_under : (ls : List ℤ) (q : ℕ) (k : ℤ) → length ls ≤ q → Under (2 ^ 18) ls → unsigned_abs k < 2 ^ 20 → Under (2 ^ 20) (weighted_sum (replicate q (pos 0) ++ k ∷ []) (pos 1) ls (negsuc 0))
term_less_under [] zero k h a b = and_true (is_below (unsigned_abs (pos 1 *ℤ k)) (2 ^ 20) (omega (arith, ints, b))) refl
term_less_under [] (suc q) k h a b = term_less_under [] q k (omega arith) a b
term_less_under (l ∷ ls) zero k h a b = absurd (omega (arith, h))
term_less_under (l ∷ ls) (suc q) k h a b =
    let p = both {a = nat_lt (unsigned_abs l) (2 ^ 18)} a in
    and_true (is_below (unsigned_abs (pos 1 *ℤ pos 0 +ℤ negsuc 0 *ℤ l)) (2 ^ 20) (head l (below (unsigned_abs l) (2 ^ 18) p.0))) (term_less_under ls q k (omega (arith, h)) p.1 b)
  where
    head : (l : ℤ) → unsigned_abs l < 2 ^ 18 → unsigned_abs (pos 1 *ℤ pos 0 +ℤ negsuc 0 *ℤ l) < 2 ^ 20
    head l h = omega (arith, ints, h)

-- ---- how many variables a sum has

pub weighted_width : (ls rs : List ℤ) (a b : ℤ) (k : ℕ) → length ls ≤ k → length rs ≤ k → length (weighted_sum ls a rs b) ≤ k
weighted_width [] [] a b k p q = omega arith
weighted_width [] (r ∷ rs) a b zero p q = absurd (omega (arith, q))
weighted_width [] (r ∷ rs) a b (suc k) p q = let h = weighted_width [] rs a b k (omega arith) (omega (arith, q)) in omega (arith, h)
weighted_width (l ∷ ls) [] a b zero p q = absurd (omega (arith, p))
weighted_width (l ∷ ls) [] a b (suc k) p q = let h = weighted_width ls [] a b k (omega (arith, p)) (omega arith) in omega (arith, h)
weighted_width (l ∷ ls) (r ∷ rs) a b zero p q = absurd (omega (arith, p))
weighted_width (l ∷ ls) (r ∷ rs) a b (suc k) p q = let h = weighted_width ls rs a b k (omega (arith, p)) (omega (arith, q)) in omega (arith, h)

-- ---- rows

pub fits_by : (n : ℕ) (f : Linear) → length f.coefficients ≤ n → Under (2 ^ 20) f.coefficients → unsigned_abs f.constant < 2 ^ 100 → fits_row n f ≡ true
fits_by n f w a c = and_true (and_true (is_up_to (length f.coefficients) n w) a) (is_below (unsigned_abs f.constant) (2 ^ 100) c)

pub low_to : (n : ℕ) (f : Linear) → length f.coefficients ≤ n → is_low f ≡ true → IsLowTo n f
low_to n f w h =
    let p = both {a = list_all (λ c. nat_lt (unsigned_abs c) (2 ^ 18)) f.coefficients} h in
    record { short = w; low = p.0; constant = below (unsigned_abs f.constant) (2 ^ 98) p.1 }

-- low sums, and one less than they, are rows
pub low_fits : (n : ℕ) (f : Linear) → IsLowTo n f → fits_row n f ≡ true
low_fits n f l = fits_by n f l.short (under_more (2 ^ 18) (2 ^ 20) f.coefficients (omega arith) l.low) (omega (arith, l.constant))

pub less_fits : (n : ℕ) (f : Linear) → IsLowTo n f → fits_row n (less_one f) ≡ true
less_fits n f l = fits_by n (less_one f) l.short (under_more (2 ^ 18) (2 ^ 20) f.coefficients (omega arith) l.low) (constant_less f.constant l.constant)
  where
    constant_less : (c : ℤ) → unsigned_abs c < 2 ^ 98 → unsigned_abs (c -ℤ pos 1) < 2 ^ 100
    constant_less c h = omega (arith, ints, h)

-- the difference of two low sums is a row, and so is one less
pub difference_fits : (n : ℕ) (f g : Linear) → IsLowTo n f → IsLowTo n g → fits_row n (minus f g) ≡ true
difference_fits n f g l k =
    fits_by n (minus f g) (weighted_width f.coefficients g.coefficients (pos 1) (negsuc 0) n l.short k.short)
    (under_more (2 ^ 18 + 2 ^ 18) (2 ^ 20) (weighted_sum f.coefficients (pos 1) g.coefficients (negsuc 0)) (omega arith) (minus_under f.coefficients g.coefficients (2 ^ 18) (2 ^ 18) l.low k.low))
    (apart f.constant g.constant l.constant k.constant)
  where
    apart : (c d : ℤ) → unsigned_abs c < 2 ^ 98 → unsigned_abs d < 2 ^ 98 → unsigned_abs (pos 1 *ℤ c +ℤ negsuc 0 *ℤ d) < 2 ^ 100
    apart c d h e = omega (arith, ints, h, e)

pub above_fits : (n : ℕ) (f g : Linear) → IsLowTo n f → IsLowTo n g → fits_row n (less_one (minus f g)) ≡ true
above_fits n f g l k =
    fits_by n (less_one (minus f g)) (weighted_width f.coefficients g.coefficients (pos 1) (negsuc 0) n l.short k.short)
    (under_more (2 ^ 18 + 2 ^ 18) (2 ^ 20) (weighted_sum f.coefficients (pos 1) g.coefficients (negsuc 0)) (omega arith) (minus_under f.coefficients g.coefficients (2 ^ 18) (2 ^ 18) l.low k.low))
    (apart f.constant g.constant l.constant k.constant)
  where
    apart : (c d : ℤ) → unsigned_abs c < 2 ^ 98 → unsigned_abs d < 2 ^ 98 → unsigned_abs ((pos 1 *ℤ c +ℤ negsuc 0 *ℤ d) -ℤ pos 1) < 2 ^ 100
    apart c d h e = omega (arith, ints, h, e)
