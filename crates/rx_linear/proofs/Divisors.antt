-- Division by the greatest common divisor.
use Rattle.std.proofs.Common.{◌≡◌, refl, sym, ap, ◌∙◌, subst, ℕ, zero, suc, ◌+◌, ◌*◌, ◌%◌, ◌/◌, ◌<◌, ◌≤◌, max, arith, Bool, true, false, cond, ◌&&◌, List, [], ◌∷◌, map, length, get_or, take, ℤ, pos, negsuc, ◌+ℤ◌, ◌*ℤ◌, ◌≤ℤ◌, ◌<ℤ◌, neg_ℤ, ◌-ℤ◌, ◌^◌, to_z, of_z, unsigned_abs, ◌⊎◌, inl, inr}
use Rattle.std.specs.Int.{int_div_euclid, ◌∣◌, IsGcd, w128}
use Rattle.std.specs.List.{All}
use Rattle.std.proofs.lemmas.Int.{ints}
use Rattle.std.proofs.lemmas.Nat.Gcd.{dvd-zero, dvd_trans, le_of_dvd, dvd_of_mod-eq-zero, mod-eq-zero_of_dvd}
use Rattle.std.proofs.lemmas.List.Elements.{All-head, All-tail, All-nil, All-cons, All-more, All-weaker, All-same, All-take, All-get_or}
use Rattle.std.proofs.lemmas.List.{take-take, length-take, get_or-take}
use Rattle.std.proofs.lemmas.Grind.{common_steps}
use Rattle.std.proofs.Math.IntN.{*ℤ-zero}
use Rattle.std.proofs.lemmas.Bool.{cases_eq, cases_lt, eqb-true}
use Rattle.std.proofs.Math.Nat.{mul-le-mul_left, mod-zero, div-le_self}
use Rattle.rx_linear.specs.Divisors.{greatest, divides_all, sum_of_magnitudes, common_divisor_of, IsCommonDivisor, IsGreatestCommonDivisor, divided_up, divided_down}
use Rattle.rx_model.specs.Sums.{product_sum}
use Rattle.rx_model.proofs.Ring.{times_add, times_assoc, times_lt_back, div_bounds}

-- d q is the one multiple of d above d p and not above d p + d
squeeze : (d p q : ℕ) → d * p < d * q → d * q ≤ d * p + d → d * q ≡ d * p + d
squeeze d p q l u =
    elim (cases_lt p q) [ inl h ↦ above (mul-le-mul_left d h) | inr h ↦ absurd (omega (arith, mul-le-mul_left d h)) ]
  where
    above : d * suc p ≤ d * q → d * q ≡ d * p + d
    above h = omega arith

-- divides exactly
pub divided_exactly : (c : ℤ) (d : ℕ) → 0 < d → d ∣ unsigned_abs c → pos d *ℤ divided_down c d ≡ c
divided_exactly (pos a) d h v = let e = mod-eq-zero_of_dvd d v in omega (arith, ints, e)
divided_exactly (negsuc a) d h v =
    let e : suc a % d ≡ 0 = mod-eq-zero_of_dvd d v in
    let below : d * (a / d) < d * (suc a / d) = omega arith in
    let above : d * (suc a / d) ≤ d * (a / d) + d = omega arith in
    let s = squeeze d (a / d) (suc a / d) below above in
    omega (arith, ints, s)

times_neg : (k z : ℤ) → k *ℤ neg_ℤ z ≡ neg_ℤ (k *ℤ z)
times_neg k z =
    let cancel : neg_ℤ z +ℤ z ≡ pos 0 = omega (arith, ints) in
    let e : k *ℤ (neg_ℤ z +ℤ z) ≡ pos 0 = ap (λ (y : ℤ). k *ℤ y) cancel ∙ *ℤ-zero k in
    let d = times_add k (neg_ℤ z) z in
    omega (arith, ints)

-- up: the least t with z ≤ d t
pub divided_up_least : (z t : ℤ) (d : ℕ) → 0 < d → z ≤ℤ (pos d *ℤ t) → divided_up z d ≤ℤ t
divided_up_least z t d h le =
    let n : pos 0 ≤ℤ pos d = omega (arith, ints) in
    let b = div_bounds (neg_ℤ z) d h in
    let step : pos d *ℤ (divided_down (neg_ℤ z) d +ℤ pos 1) ≡ pos d *ℤ divided_down (neg_ℤ z) d +ℤ pos d =
    times_add (pos d) (divided_down (neg_ℤ z) d) (pos 1) ∙ ap (λ (y : ℤ). pos d *ℤ divided_down (neg_ℤ z) d +ℤ y) (let o : pos d *ℤ pos 1 ≡ pos d = omega (arith, ints) in o) in
    let m = times_neg (pos d) t in
    let l : (pos d *ℤ neg_ℤ t) <ℤ (pos d *ℤ (divided_down (neg_ℤ z) d +ℤ pos 1)) = omega (arith, ints, b.1) in
    let r = times_lt_back (pos d) (neg_ℤ t) (divided_down (neg_ℤ z) d +ℤ pos 1) n l in
    omega (arith, ints, r)

pub divided_up_enough : (z : ℤ) (d : ℕ) → 0 < d → z ≤ℤ (pos d *ℤ divided_up z d)
divided_up_enough z d h =
    let b = div_bounds (neg_ℤ z) d h in
    let m = times_neg (pos d) (divided_down (neg_ℤ z) d) in
    omega (arith, ints, b.0)

pub product_sum-divided : (cs xs : List ℤ) (d : ℕ) → 0 < d → IsCommonDivisor cs d → product_sum cs xs ≡ pos d *ℤ product_sum (map (λ c. divided_down c d) cs) xs
product_sum-divided [] xs d h v = omega (arith, ints)
product_sum-divided (c ∷ cs) [] d h v = omega (arith, ints)
product_sum-divided (c ∷ cs) (x ∷ xs) d h v =
    divided_step (pos d) (divided_down c d) c x _ _ (divided_exactly c d h (All-head (λ c. d ∣ unsigned_abs c) c cs v)) (product_sum-divided cs xs d h (All-tail (λ c. d ∣ unsigned_abs c) c cs v))
  where
    divided_step : (k q c x s t : ℤ) → k *ℤ q ≡ c → s ≡ k *ℤ t → c *ℤ x +ℤ s ≡ k *ℤ (q *ℤ x +ℤ t)
    divided_step k q c x s t e f =
        ap (λ (y : ℤ). y *ℤ x +ℤ s) (sym e) ∙ ap (λ (y : ℤ). (k *ℤ q) *ℤ x +ℤ y) f ∙ ap (λ (y : ℤ). y +ℤ k *ℤ t) (times_assoc k q x) ∙ sym (times_add k (q *ℤ x) t)

pub greatest_is : (test : ℕ → Bool) (n k : ℕ) → k ≤ n → test k ≡ true → ((j : ℕ) → j ≤ n → test j ≡ true → j ≤ k) → greatest test n ≡ k
unfolding greatest
greatest_is test zero k h t most = omega arith
greatest_is test (suc n) k h t most =
    by_test (test (suc n)) (λ y. same_k (most (suc n) (omega arith) y)) (λ y. let lower : k ≤ n = below_next y in greatest_is test n k lower t (λ i l. most i (omega (arith, l))))
  where
    by_test : (b : Bool) → (b ≡ true → suc n ≡ k) → (b ≡ false → greatest test n ≡ k) → cond b (suc n) (greatest test n) ≡ k
    by_test true f g = f refl
    by_test false f g = g refl

    same_k : suc n ≤ k → suc n ≡ k
    same_k l = omega arith

    below_next : test (suc n) ≡ false → k ≤ n
    below_next y = elim (cases_eq k (suc n)) [ inl e ↦ absurd (apart e) | inr ne ↦ omega arith ]
      where
        apart : k ≡ suc n → ⊥
        apart e = let a : test (suc n) ≡ true = ap test (sym e) ∙ t in cc

pub test_from_common : (cs : List ℤ) (d : ℕ) → IsCommonDivisor cs d → divides_all cs d ≡ true
test_from_common [] d h = refl
test_from_common (c ∷ cs) d h =
    let e = mod-eq-zero_of_dvd d (All-head (λ c. d ∣ unsigned_abs c) c cs h) in
    let r = test_from_common cs d (All-tail (λ c. d ∣ unsigned_abs c) c cs h) in
    grind (arith, common_steps, e, r)

pub common_from_test : (cs : List ℤ) (d : ℕ) → divides_all cs d ≡ true → IsCommonDivisor cs d
common_from_test [] d h = All-nil (λ c. d ∣ unsigned_abs c)
common_from_test (c ∷ cs) d h =
    let parts = both _ _ h in
    All-cons (λ c. d ∣ unsigned_abs c) c cs (dvd_of_mod-eq-zero d (eqb-true _ _ parts.0)) (common_from_test cs d parts.1)
  where
    both : (a b : Bool) → (a && b) ≡ true → (a ≡ true) × (b ≡ true)
    both true b e = (refl, e)
    both false b e = absurd (cc)

-- a common divisor divides each, so it is at most the sum of all where one is not 0
common_at_most : (cs : List ℤ) (d : ℕ) → IsCommonDivisor cs d → 0 < sum_of_magnitudes cs → d ≤ sum_of_magnitudes cs
common_at_most [] d h p = absurd (omega arith)
common_at_most (c ∷ cs) d h p =
    least_of (unsigned_abs c) (sum_of_magnitudes cs) d p (λ q. le_of_dvd q (All-head (λ c. d ∣ unsigned_abs c) c cs h)) (common_at_most cs d (All-tail (λ c. d ∣ unsigned_abs c) c cs h))
  where
    least_of : (m n d : ℕ) → 0 < m + n → (0 < m → d ≤ m) → (0 < n → d ≤ n) → d ≤ m + n
    least_of m n d p f g = elim (cases_lt 0 m) [ inl q ↦ omega (arith, f q) | inr z ↦ (let q : 0 < n = omega arith in omega (arith, g q)) ]

-- where all are 0, everything divides them
all_zero_common : (cs : List ℤ) (d : ℕ) → sum_of_magnitudes cs ≡ 0 → IsCommonDivisor cs d
all_zero_common [] d z = All-nil (λ c. d ∣ unsigned_abs c)
all_zero_common (c ∷ cs) d z =
    All-cons (λ c. d ∣ unsigned_abs c) c cs (let P : ℕ → Type 0 = λ n. d ∣ n in subst P (sym (left_zero (unsigned_abs c) (sum_of_magnitudes cs) z)) (dvd-zero d)) (all_zero_common cs d (right_zero (unsigned_abs c) (sum_of_magnitudes cs) z))
  where
    left_zero : (m n : ℕ) → m + n ≡ 0 → m ≡ 0
    left_zero m n z = omega arith

    right_zero : (m n : ℕ) → m + n ≡ 0 → n ≡ 0
    right_zero m n z = omega arith

-- 0 divides 0 alone
zero_common : (cs : List ℤ) → IsCommonDivisor cs 0 → sum_of_magnitudes cs ≡ 0
zero_common [] h = refl
zero_common (c ∷ cs) h =
    zero_sum (unsigned_abs c) (sum_of_magnitudes cs) (mod-eq-zero_of_dvd 0 (All-head (λ c. 0 ∣ unsigned_abs c) c cs h)) (zero_common cs (All-tail (λ c. 0 ∣ unsigned_abs c) c cs h))
  where
    zero_sum : (m n : ℕ) → m % 0 ≡ 0 → n ≡ 0 → m + n ≡ 0
    zero_sum m n e f = omega (arith, mod-zero m)

pub common_divisor_is : (cs : List ℤ) (g : ℕ) → IsGreatestCommonDivisor cs g → common_divisor_of cs ≡ g
unfolding common_divisor_of
common_divisor_is cs g h =
    greatest_is (divides_all cs) (sum_of_magnitudes cs) g bounded (test_from_common cs g h.0) most
  where
    zero_case : sum_of_magnitudes cs ≡ 0 → g ≡ 0
    zero_case z = omega (arith, mod-eq-zero_of_dvd 0 (h.1 0 (all_zero_common cs 0 z)), mod-zero g)

    positive : (sum_of_magnitudes cs ≡ 0 → ⊥) → 0 < g
    positive ne =
        elim (cases_eq g 0) [
          | inl z ↦ absurd (ne (zero_common cs (let P : ℕ → Type 0 = λ n. IsCommonDivisor cs n in subst P z h.0)))
          | inr p ↦ omega arith
        ]

    bounded : g ≤ sum_of_magnitudes cs
    bounded = elim (cases_eq (sum_of_magnitudes cs) 0) [ inl z ↦ omega (arith, zero_case z) | inr ne ↦ common_at_most cs g h.0 (omega arith) ]

    most : (j : ℕ) → j ≤ sum_of_magnitudes cs → divides_all cs j ≡ true → j ≤ g
    most j l t = elim (cases_eq (sum_of_magnitudes cs) 0) [ inl z ↦ omega arith | inr ne ↦ le_of_dvd (positive ne) (h.1 j (common_from_test cs j t)) ]

pub gcd_step : (cs : List ℤ) (i g h : ℕ) → i < length cs → IsGreatestCommonDivisor (take i cs) g → IsGcd g (unsigned_abs (get_or cs i (pos 0))) h → IsGreatestCommonDivisor (take (i + 1) cs) h
gcd_step cs i g h l ig ih =
    let P : ℕ → ℤ → Type 0 = λ d c. d ∣ unsigned_abs c in (
      All-more (P h) cs i (pos 0) l (All-weaker (P g) (P h) (λ c v. dvd_trans h ih.0 v) (take i cs) ig.0) ih.1,
      (λ d v. ih.2 d (ig.1 d (init_common d v)) (last_common d v)),
    )
  where
    init_common : (d : ℕ) → IsCommonDivisor (take (i + 1) cs) d → IsCommonDivisor (take i cs) d
    init_common d v = All-same (λ c. d ∣ unsigned_abs c) (take i cs) (take i (take (i + 1) cs)) (sym (take-take i (i + 1) cs (omega arith))) (All-take (λ c. d ∣ unsigned_abs c) i (take (i + 1) cs) v)

    last_common : (d : ℕ) → IsCommonDivisor (take (i + 1) cs) d → d ∣ unsigned_abs (get_or cs i (pos 0))
    last_common d v =
        let at : d ∣ unsigned_abs (get_or (take (i + 1) cs) i (pos 0)) = All-get_or (λ c. d ∣ unsigned_abs c) (take (i + 1) cs) i (pos 0) (omega (arith, length-take (i + 1) cs)) v in
        rw (get_or-take (i + 1) cs i (pos 0) (omega arith)) at at

both_zero : (g n m k : ℕ) → m < n → (0 < m → g ≤ m) → k ≡ 0 → n ≤ g → m + k ≡ 0
both_zero g n m k l f z big = elim (cases_lt 0 m) [ inl q ↦ absurd (omega (arith, f q)) | inr q ↦ omega arith ]

none_left : (g n : ℕ) (ds : List ℤ) → IsCommonDivisor ds g → All (λ c. unsigned_abs c < n) ds → n ≤ g → sum_of_magnitudes ds ≡ 0
none_left g n [] v s big = refl
none_left g n (d ∷ ds) v s big =
    both_zero g n (unsigned_abs d) (sum_of_magnitudes ds) (All-head (λ c. unsigned_abs c < n) d ds s) (λ q. le_of_dvd q (All-head (λ c. g ∣ unsigned_abs c) d ds v)) (none_left g n ds (All-tail (λ c. g ∣ unsigned_abs c) d ds v) (All-tail (λ c. unsigned_abs c < n) d ds s) big) big

-- the greatest common divisor is below what all magnitudes are below
pub divisor_below : (cs : List ℤ) (g n : ℕ) → 0 < n → All (λ c. unsigned_abs c < n) cs → IsGreatestCommonDivisor cs g → g < n
divisor_below cs g n p small h =
    elim (cases_lt g n) [ inl l ↦ l | inr big ↦ absurd (not_zero (omega arith) (none_left g n cs h.0 small big)) ]
  where
    not_zero : 0 < g → sum_of_magnitudes cs ≡ 0 → ⊥
    not_zero pg z = omega (arith, mod-eq-zero_of_dvd 0 (h.1 0 (all_zero_common cs 0 z)), mod-zero g)

pub positive_divisor : (cs : List ℤ) (g : ℕ) → IsGreatestCommonDivisor cs g → IsCommonDivisor cs (max 1 g)
positive_divisor cs g h =
    let P : ℕ → Type 0 = λ d. IsCommonDivisor cs d in
    elim (cases_eq g 0) [
      | inl z ↦ subst P (one z) (all_zero_common cs 1 (zero_common cs (subst P z h.0)))
      | inr ne ↦ subst P (same ne) h.0
    ]
  where
    one : g ≡ 0 → 1 ≡ max 1 g
    one z = omega arith

    same : (g ≡ 0 → ⊥) → g ≡ max 1 g
    same ne = omega arith

pub div_small : (y : ℤ) (d : ℕ) → unsigned_abs (int_div_euclid y (pos d)) ≤ unsigned_abs y
div_small (pos a) d = div-le_self a d
div_small (negsuc a) d = omega (arith, div-le_self a d)

-- the rounded constant, as the code's cast values give it
pub divided_up_code : (z r : ℤ) (m : ℕ) → unsigned_abs z < 2 ^ 121 → m < 2 ^ 41 → r ≡ int_div_euclid (to_z w128 (of_z w128 (pos 0 -ℤ to_z w128 (of_z w128 z)))) (to_z w128 m) → to_z w128 (of_z w128 (pos 0 -ℤ to_z w128 (of_z w128 r))) ≡ divided_up z m
divided_up_code z r m hz hm e =
    let inner : to_z w128 (of_z w128 (pos 0 -ℤ to_z w128 (of_z w128 z))) ≡ neg_ℤ z = omega (arith, ints, hz) in
    let divisor : to_z w128 m ≡ pos m = omega (arith, ints, hm) in
    let quotient : r ≡ int_div_euclid (neg_ℤ z) (pos m) = e ∙ ap (λ (y : ℤ). int_div_euclid y (to_z w128 m)) inner ∙ ap (λ (y : ℤ). int_div_euclid (neg_ℤ z) y) divisor in
    let small = div_small (neg_ℤ z) m in
    let below : unsigned_abs r < 2 ^ 121 = rw quotient (let n : unsigned_abs (neg_ℤ z) < 2 ^ 121 = omega (arith, ints, hz) in omega (arith, small, n)) in
    let outer : to_z w128 (of_z w128 (pos 0 -ℤ to_z w128 (of_z w128 r))) ≡ neg_ℤ r = omega (arith, ints, below) in
    outer ∙ ap neg_ℤ quotient

greatest_passes : (test : ℕ → Bool) (n : ℕ) → (greatest test n ≡ 0) ⊎ (test (greatest test n) ≡ true)
unfolding greatest
greatest_passes test zero = inl refl
greatest_passes test (suc n) = by_test (test (suc n)) refl (greatest_passes test n)
  where
    by_test : (b : Bool) → test (suc n) ≡ b → (greatest test n ≡ 0) ⊎ (test (greatest test n) ≡ true) → (cond b (suc n) (greatest test n) ≡ 0) ⊎ (test (cond b (suc n) (greatest test n)) ≡ true)
    by_test true e r = inr e
    by_test false e r = r

one_divides : (n : ℕ) → 1 ∣ n
one_divides n = dvd_of_mod-eq-zero 1 (omega arith)

one_common : (cs : List ℤ) → IsCommonDivisor cs 1
one_common [] = All-nil (λ c. 1 ∣ unsigned_abs c)
one_common (c ∷ cs) = All-cons (λ c. 1 ∣ unsigned_abs c) c cs (one_divides (unsigned_abs c)) (one_common cs)

pub divisor_divides : (cs : List ℤ) → IsCommonDivisor cs (max 1 (common_divisor_of cs))
unfolding common_divisor_of
divisor_divides cs =
    elim (greatest_passes (divides_all cs) (sum_of_magnitudes cs)) [
      | inl z ↦ subst P (low z) (one_common cs)
      | inr t ↦ pick (cases_lt 0 (common_divisor_of cs)) t
    ]
  where
    P : ℕ → Type 0
    P d = IsCommonDivisor cs d

    low : common_divisor_of cs ≡ 0 → 1 ≡ max 1 (common_divisor_of cs)
    low z = omega arith

    pick : (0 < common_divisor_of cs) ⊎ (common_divisor_of cs ≤ 0) → divides_all cs (common_divisor_of cs) ≡ true → IsCommonDivisor cs (max 1 (common_divisor_of cs))
    pick (inl p) t = subst (λ (d : ℕ). IsCommonDivisor cs d) (let e : common_divisor_of cs ≡ max 1 (common_divisor_of cs) = omega arith in e) (common_from_test cs (common_divisor_of cs) t)
    pick (inr z) t = subst (λ (d : ℕ). IsCommonDivisor cs d) (let e : 1 ≡ max 1 (common_divisor_of cs) = omega arith in e) (one_common cs)

-- where the first numbers have no common divisor but 1, all have none
pub one_stays : (cs : List ℤ) (i : ℕ) → IsGreatestCommonDivisor (take i cs) 1 → IsGreatestCommonDivisor cs 1
one_stays cs i h = (one_common cs, (λ d v. h.1 d (All-take (λ c. d ∣ unsigned_abs c) i cs v)))
