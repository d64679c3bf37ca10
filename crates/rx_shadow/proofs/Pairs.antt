-- Eliminating an exact variable loses no point: each point of what is left has a value for the variable.
use Rattle.std.proofs.Common.{◌≡◌, refl, sym, ap, subst, ◌∙◌, ℕ, zero, suc, ◌<◌, List, [], ◌∷◌, map, set, get_or, length, Bool, true, false, cond, ℤ, pos, negsuc, neg_ℤ, ◌*ℤ◌, ◌+ℤ◌, ◌-ℤ◌, ◌≤ℤ◌, ◌<ℤ◌, int_lt, unsigned_abs, inl, inr, ◌⊎◌, arith}
use Rattle.std.specs.List.{list_all, filter, flat_map}
use Rattle.std.specs.Ordering.{int_eq}
use Rattle.std.proofs.lemmas.Int.{ints, by_lt_z}
use Rattle.std.proofs.Math.IntN.{zero-*ℤ, *ℤ-zero, *ℤ_comm}
use Rattle.std.proofs.lemmas.Bool.{or_cases}
use Rattle.std.proofs.lemmas.Bool.Decides.{Decides-int_eq}
use Rattle.std.proofs.lemmas.List.{set-get_or, length-map}
use Rattle.std.proofs.lemmas.List.Folds.{list_all-append}
use Rattle.rx_linear.specs.declared.row.Row.{Row}
use Rattle.rx_model.specs.Sums.{product_sum}
use Rattle.rx_linear.specs.Rows.{Holds}
use Rattle.rx_linear.specs.Joining.{holds, all_hold}
use Rattle.rx_linear.specs.Units.{coefficient}
use Rattle.rx_model.proofs.Ring.{times_add, times_assoc, times_neg_is, neg_times_is}
use Rattle.rx_model.proofs.Sums.{product_sum-weighted}
use Rattle.rx_linear.proofs.Joining.{both, and_true, Holds-from_test, test-from_Holds}
use Rattle.rx_shadow.specs.Simple.{positives, negatives, without, is_unit_pair, has_unit_pairs, paired, pairs}
use Rattle.rx_shadow.proofs.Between.{Bound, EachBelow, EachAbove, ExactPair, ExactWith, EachExact, between}

-- the row's sum at the point without variable x
abbrev pub rest_at : ℕ → List ℤ → Row → ℤ
rest_at x point row = product_sum row.coefficients (set point x (pos 0))

pub product_sum-set : (cs xs : List ℤ) (k : ℕ) (v : ℤ) → k < length xs → product_sum cs (set xs k v) ≡ get_or cs k (pos 0) *ℤ v +ℤ product_sum cs (set xs k (pos 0))
product_sum-set [] xs k v h = omega (arith, ints, zero-*ℤ v)
product_sum-set (c ∷ cs) [] k v h = absurd (omega arith)
product_sum-set (c ∷ cs) (x ∷ xs) zero v h = omega (arith, ints, *ℤ-zero c)
product_sum-set (c ∷ cs) (x ∷ xs) (suc k) v h =
    let l : k < length xs = omega arith in
    let r = product_sum-set cs xs k v l in
    omega (arith, ints, r)

-- a row is true at the point with value v exactly if v keeps its bound
abbrev pub lower_of : ℕ → List ℤ → Row → Bound
lower_of x point row = record { times = unsigned_abs (coefficient x row); number = row.least -ℤ rest_at x point row }

abbrev pub upper_of : ℕ → List ℤ → Row → Bound
upper_of x point row = record { times = unsigned_abs (coefficient x row); number = rest_at x point row -ℤ row.least }

-- ---- one pair

pair_ring : (a b v rf rs lf ls : ℤ) → (b *ℤ lf +ℤ a *ℤ ls) ≤ℤ (b *ℤ (a *ℤ v +ℤ rf) +ℤ a *ℤ (neg_ℤ b *ℤ v +ℤ rs)) → (b *ℤ (lf -ℤ rf)) ≤ℤ (a *ℤ (rs -ℤ ls))
pair_ring a b v rf rs lf ls h =
    let e1 = times_add b (a *ℤ v) rf in
    let e2 = times_add a (neg_ℤ b *ℤ v) rs in
    let e3 : b *ℤ (a *ℤ v) ≡ (a *ℤ b) *ℤ v = sym (times_assoc b a v) ∙ ap (λ (z : ℤ). z *ℤ v) (*ℤ_comm b a) in
    let e4 : a *ℤ (neg_ℤ b *ℤ v) ≡ neg_ℤ ((a *ℤ b) *ℤ v) = sym (times_assoc a (neg_ℤ b) v) ∙ ap (λ (z : ℤ). z *ℤ v) (times_neg_is a b) ∙ neg_times_is (a *ℤ b) v in
    let e5 = times_add b lf (neg_ℤ rf) in
    let e6 = times_neg_is b rf in
    let e7 = times_add a rs (neg_ℤ ls) in
    let e8 = times_neg_is a ls in
    omega (arith, ints)

pub own_value : (x : ℕ) (point : List ℤ) (row : Row) → x < length point → product_sum row.coefficients point ≡ coefficient x row *ℤ get_or point x (pos 0) +ℤ rest_at x point row
own_value x point row l =
    ap (λ (zs : List ℤ). product_sum row.coefficients zs) (sym (set-get_or point x (pos 0))) ∙ product_sum-set row.coefficients point x (get_or point x (pos 0)) l

abs_positive : (z : ℤ) → pos 0 <ℤ z → pos (unsigned_abs z) ≡ z
abs_positive (pos n) h = refl
abs_positive (negsuc n) h = absurd (omega (arith, ints, h))

abs_negative : (z : ℤ) → z <ℤ pos 0 → pos (unsigned_abs z) ≡ neg_ℤ z
abs_negative (pos n) h = absurd (omega (arith, ints, h))
abs_negative (negsuc n) h = refl

exact_pair : (x : ℕ) (point : List ℤ) (first second : Row) → x < length point → pos 0 <ℤ coefficient x first → coefficient x second <ℤ pos 0 → is_unit_pair x first second ≡ true → holds point (paired x first second) ≡ true → ExactPair (lower_of x point first) (upper_of x point second)
exact_pair x point first second l pf ns u h =
    let ea = abs_positive (coefficient x first) pf in
    let eb = abs_negative (coefficient x second) ns in
    let sums = product_sum-weighted first.coefficients second.coefficients point (neg_ℤ (coefficient x second)) (coefficient x first) in
    let of = own_value x point first l in
    let os = own_value x point second l in
    let back : coefficient x second ≡ neg_ℤ (neg_ℤ (coefficient x second)) = omega (arith, ints) in
    let os2 : product_sum second.coefficients point ≡ neg_ℤ (neg_ℤ (coefficient x second)) *ℤ get_or point x (pos 0) +ℤ rest_at x point second =
    os ∙ ap (λ (z : ℤ). z *ℤ get_or point x (pos 0) +ℤ rest_at x point second) back in
    let whole : product_sum (paired x first second).coefficients point ≡ neg_ℤ (coefficient x second) *ℤ (coefficient x first *ℤ get_or point x (pos 0) +ℤ rest_at x point first) +ℤ coefficient x first *ℤ (neg_ℤ (neg_ℤ (coefficient x second)) *ℤ get_or point x (pos 0) +ℤ rest_at x point second) =
    sums ∙ ap (λ (z : ℤ). neg_ℤ (coefficient x second) *ℤ z +ℤ coefficient x first *ℤ product_sum second.coefficients point) of ∙ ap (λ (z : ℤ). neg_ℤ (coefficient x second) *ℤ (coefficient x first *ℤ get_or point x (pos 0) +ℤ rest_at x point first) +ℤ coefficient x first *ℤ z) os2 in
    let truth : Holds (paired x first second) point = Holds-from_test point (paired x first second) h in
    let ring = pair_ring (coefficient x first) (neg_ℤ (coefficient x second)) (get_or point x (pos 0)) (rest_at x point first) (rest_at x point second) first.least second.least (subst (λ (z : ℤ). (paired x first second).least ≤ℤ z) whole truth) in
    record {
      low_positive = omega (arith, ints, pf, ea);
      high_positive = omega (arith, ints, ns, eb);
      one = ones (or_cases (int_eq (coefficient x first) (pos 1)) (int_eq (coefficient x second) (negsuc 0)) u);
      combination = subst (λ (z : ℤ). (z *ℤ (first.least -ℤ rest_at x point first)) ≤ℤ (pos (unsigned_abs (coefficient x first)) *ℤ (rest_at x point second -ℤ second.least))) (sym eb)
          (subst (λ (z : ℤ). (neg_ℤ (coefficient x second) *ℤ (first.least -ℤ rest_at x point first)) ≤ℤ (z *ℤ (rest_at x point second -ℤ second.least))) (sym ea) ring);
    }
  where
    ones : (int_eq (coefficient x first) (pos 1) ≡ true) ⊎ (int_eq (coefficient x second) (negsuc 0) ≡ true) → (unsigned_abs (coefficient x first) ≡ 1) ⊎ (unsigned_abs (coefficient x second) ≡ 1)
    ones (inl e) = inl (ap unsigned_abs ((Decides-int_eq (coefficient x first) (pos 1)).0 e))
    ones (inr e) = inr (ap unsigned_abs ((Decides-int_eq (coefficient x second) (negsuc 0)).0 e))

-- ---- all pairs

abbrev Each : (Row → Type 0) → List Row → Type 0
Each P [] = Unit {0}
Each P (row ∷ rows) = P row × Each P rows

each_passes : (test : Row → Bool) (rows : List Row) → Each (λ row. test row ≡ true) (filter test rows)
each_passes test [] = tt
each_passes test (row ∷ rows) = by_test (test row) refl (each_passes test rows)
  where
    by_test : (b : Bool) → test row ≡ b → Each (λ r. test r ≡ true) (filter test rows) → Each (λ r. test r ≡ true) (cond b (row ∷ filter test rows) (filter test rows))
    by_test true e rest = (e, rest)
    by_test false e rest = rest

exact_with : (x : ℕ) (point : List ℤ) (first : Row) (seconds : List Row) → x < length point → pos 0 <ℤ coefficient x first → Each (λ row. int_lt (coefficient x row) (pos 0) ≡ true) seconds → list_all (is_unit_pair x first) seconds ≡ true → all_hold point (map (paired x first) seconds) ≡ true → ExactWith (lower_of x point first) (map (upper_of x point) seconds)
exact_with x point first [] l pf n u h = tt
exact_with x point first (second ∷ seconds) l pf n u h =
    let us = both {a = is_unit_pair x first second} {b = list_all (is_unit_pair x first) seconds} u in
    let hs = both {a = holds point (paired x first second)} {b = all_hold point (map (paired x first) seconds)} h in
    (exact_pair x point first second l pf (let t : coefficient x second <ℤ pos 0 = omega (arith, ints, n.0) in t) us.0 hs.0, exact_with x point first seconds l pf n.1 us.1 hs.1)

each_exact : (x : ℕ) (point : List ℤ) (firsts seconds : List Row) → x < length point → Each (λ row. int_lt (pos 0) (coefficient x row) ≡ true) firsts → Each (λ row. int_lt (coefficient x row) (pos 0) ≡ true) seconds → list_all (λ first. list_all (is_unit_pair x first) seconds) firsts ≡ true → all_hold point (flat_map (λ first. map (paired x first) seconds) firsts) ≡ true → EachExact (map (lower_of x point) firsts) (map (upper_of x point) seconds)
each_exact x point [] seconds l p n u h = tt
each_exact x point (first ∷ firsts) seconds l p n u h =
    let us = both {a = list_all (is_unit_pair x first) seconds} {b = list_all (λ f. list_all (is_unit_pair x f) seconds) firsts} u in
    let hs = both {a = all_hold point (map (paired x first) seconds)} {b = all_hold point (flat_map (λ f. map (paired x f) seconds) firsts)} (sym (list_all-append (holds point) (map (paired x first) seconds) (flat_map (λ f. map (paired x f) seconds) firsts)) ∙ h) in
    let pf : pos 0 <ℤ coefficient x first = omega (arith, ints, p.0) in
    (((let ea = abs_positive (coefficient x first) pf in omega (arith, ints, pf, ea)), exact_with x point first seconds l pf n us.0 hs.0), each_exact x point firsts seconds l p.1 n us.1 hs.1)

-- ---- from the bounds back to the rows

below_rest : (v : ℤ) (f : Row → Bound) (row : Row) (rows : List Row) (b : Bool) → EachBelow v (map f (cond b (row ∷ rows) rows)) → EachBelow v (map f rows)
below_rest v f row rows true h = h.1
below_rest v f row rows false h = h

below_first : (v : ℤ) (f : Row → Bound) (row : Row) (rows : List Row) (b : Bool) → b ≡ true → EachBelow v (map f (cond b (row ∷ rows) rows)) → (f row).number ≤ℤ (pos (f row).times *ℤ v)
below_first v f row rows true e h = h.0
below_first v f row rows false e h = absurd (cc)

above_rest : (v : ℤ) (f : Row → Bound) (row : Row) (rows : List Row) (b : Bool) → EachAbove v (map f (cond b (row ∷ rows) rows)) → EachAbove v (map f rows)
above_rest v f row rows true h = h.1
above_rest v f row rows false h = h

above_first : (v : ℤ) (f : Row → Bound) (row : Row) (rows : List Row) (b : Bool) → b ≡ true → EachAbove v (map f (cond b (row ∷ rows) rows)) → (pos (f row).times *ℤ v) ≤ℤ (f row).number
above_first v f row rows true e h = h.0
above_first v f row rows false e h = absurd (cc)

hold_rest : (point : List ℤ) (row : Row) (rows : List Row) (b : Bool) → all_hold point (cond b (row ∷ rows) rows) ≡ true → all_hold point rows ≡ true
hold_rest point row rows true h = (both {a = holds point row} {b = all_hold point rows} h).1
hold_rest point row rows false h = h

hold_first : (point : List ℤ) (row : Row) (rows : List Row) (b : Bool) → b ≡ true → all_hold point (cond b (row ∷ rows) rows) ≡ true → holds point row ≡ true
hold_first point row rows true e h = (both {a = holds point row} {b = all_hold point rows} h).0
hold_first point row rows false e h = absurd (cc)

lt_test : (a b : ℤ) → a <ℤ b → int_lt a b ≡ true
lt_test a b h = grind (arith, ints, h)

row_holds : (x : ℕ) (point : List ℤ) (v : ℤ) (row : Row) → x < length point → (int_lt (pos 0) (coefficient x row) ≡ true → (lower_of x point row).number ≤ℤ (pos (lower_of x point row).times *ℤ v)) → (int_lt (coefficient x row) (pos 0) ≡ true → (pos (upper_of x point row).times *ℤ v) ≤ℤ (upper_of x point row).number) → (int_eq (coefficient x row) (pos 0) ≡ true → holds point row ≡ true) → holds (set point x v) row ≡ true
row_holds x point v row l low high none =
    by_lt_z (pos 0) (coefficient x row) positive (λ rest. by_lt_z (coefficient x row) (pos 0) negative (λ other. zero_case (let z : coefficient x row ≡ pos 0 = omega (arith, ints, rest, other) in z)))
  where
    at_v : product_sum row.coefficients (set point x v) ≡ coefficient x row *ℤ v +ℤ rest_at x point row
    at_v = product_sum-set row.coefficients point x v l

    positive : pos 0 <ℤ coefficient x row → holds (set point x v) row ≡ true
    positive p =
        let b = low (lt_test (pos 0) (coefficient x row) p) in
        let e : pos (unsigned_abs (coefficient x row)) *ℤ v ≡ coefficient x row *ℤ v = ap (λ (z : ℤ). z *ℤ v) (abs_positive (coefficient x row) p) in
        test-from_Holds (set point x v) row (let a = at_v in omega (arith, ints, a, b, e))

    negative : coefficient x row <ℤ pos 0 → holds (set point x v) row ≡ true
    negative p =
        let b = high (lt_test (coefficient x row) (pos 0) p) in
        let e : pos (unsigned_abs (coefficient x row)) *ℤ v ≡ neg_ℤ (coefficient x row *ℤ v) = ap (λ (z : ℤ). z *ℤ v) (abs_negative (coefficient x row) p) ∙ neg_times_is (coefficient x row) v in
        test-from_Holds (set point x v) row (let a = at_v in omega (arith, ints, a, b, e))

    zero_case : coefficient x row ≡ pos 0 → holds (set point x v) row ≡ true
    zero_case z =
        let h = Holds-from_test point row (none ((Decides-int_eq (coefficient x row) (pos 0)).1 z)) in
        let o = own_value x point row l in
        let e : coefficient x row *ℤ v ≡ pos 0 = ap (λ (y : ℤ). y *ℤ v) z ∙ zero-*ℤ v in
        let f : coefficient x row *ℤ get_or point x (pos 0) ≡ pos 0 = ap (λ (y : ℤ). y *ℤ get_or point x (pos 0)) z ∙ zero-*ℤ (get_or point x (pos 0)) in
        test-from_Holds (set point x v) row (let a = at_v in omega (arith, ints, a, h, o, e, f))

rows_hold : (x : ℕ) (point : List ℤ) (v : ℤ) (rows : List Row) → x < length point → EachBelow v (map (lower_of x point) (positives x rows)) → EachAbove v (map (upper_of x point) (negatives x rows)) → all_hold point (without x rows) ≡ true → all_hold (set point x v) rows ≡ true
rows_hold x point v [] l b a h = refl
rows_hold x point v (row ∷ rows) l b a h =
    and_true
    (row_holds x point v row l
    (λ t. below_first v (lower_of x point) row (positives x rows) (int_lt (pos 0) (coefficient x row)) t b)
    (λ t. above_first v (upper_of x point) row (negatives x rows) (int_lt (coefficient x row) (pos 0)) t a)
    (λ t. hold_first point row (without x rows) (int_eq (coefficient x row) (pos 0)) t h))
    (rows_hold x point v rows l
    (below_rest v (lower_of x point) row (positives x rows) (int_lt (pos 0) (coefficient x row)) b)
    (above_rest v (upper_of x point) row (negatives x rows) (int_lt (coefficient x row) (pos 0)) a)
    (hold_rest point row (without x rows) (int_eq (coefficient x row) (pos 0)) h))

between_some : (lows highs : List Bound) → 0 < length lows → EachExact lows highs → (v : ℤ) × EachBelow v lows × EachAbove v highs
between_some [] highs p e = absurd (omega arith)
between_some (low ∷ lows) highs p e = between low lows highs e

-- each point of the rows without x and of the pairs becomes a point of all rows by a value of x
pub exact_elimination : (x : ℕ) (rows : List Row) (point : List ℤ) → x < length point → has_unit_pairs x rows ≡ true → 0 < length (positives x rows) → all_hold point (without x rows) ≡ true → all_hold point (pairs x rows) ≡ true → (v : ℤ) × (all_hold (set point x v) rows ≡ true)
exact_elimination x rows point l exact some hw hp =
    let all = each_exact x point (positives x rows) (negatives x rows) l (each_passes (λ row. int_lt (pos 0) (coefficient x row)) rows) (each_passes (λ row. int_lt (coefficient x row) (pos 0)) rows) exact hp in
    let r = between_some (map (lower_of x point) (positives x rows)) (map (upper_of x point) (negatives x rows)) (rw length-map some) all in
    (r.0, rows_hold x point r.0 rows l r.1 r.2 hw)
