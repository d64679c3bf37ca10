-- Each point of the rows is a point of what the elimination of a variable leaves.
use Rattle.std.proofs.Common.{◌≡◌, refl, sym, ap, subst, ◌∙◌, ℕ, ◌<◌, List, [], ◌∷◌, map, get_or, length, Bool, true, false, cond, not, ℤ, pos, negsuc, neg_ℤ, ◌≤ℤ◌, int_lt, Option, Some, None, arith}
use Rattle.std.specs.List.{All, list_all, filter, flat_map, fold}
use Rattle.std.specs.Int.{int_max, int_min}
use Rattle.std.specs.Ordering.{int_eq}
use Rattle.std.proofs.lemmas.Int.{ints}
use Rattle.std.proofs.lemmas.Bool.Decides.{Decides-int_eq}
use Rattle.std.proofs.lemmas.List.Folds.{list_all-append}
use Rattle.std.proofs.lemmas.List.Elements.{All-head, All-tail}
use Rattle.rx_model.specs.Sums.{product_sum}
use Rattle.rx_linear.specs.declared.row.Row.{Row}
use Rattle.rx_linear.specs.Rows.{combined, Holds}
use Rattle.rx_linear.specs.Joining.{holds, all_hold}
use Rattle.rx_linear.specs.Units.{coefficient, at_least, at_most, is_unit_row}
use Rattle.rx_linear.proofs.Soundness.{combined_holds}
use Rattle.rx_linear.proofs.Joining.{both, and_true, Holds-from_test, test-from_Holds, joined_holds}
use Rattle.rx_shadow.specs.Bounds.{fixed_value, common_value, greatest_lower, least_upper, lower_bounds, upper_bounds, greatest_of, least_of}
use Rattle.rx_shadow.specs.Simple.{has, positives, negatives, without, paired, pairs, at_value, replaced, eliminated}
use Rattle.rx_shadow.proofs.Points.{all_filtered, filter_passed}
use Rattle.rx_shadow.proofs.Values.{unit_sum}
use Rattle.rx_shadow.proofs.Closings.{unit_is}

-- ---- sums of pairs

paired_holds : (x : ℕ) (p : List ℤ) (first second : Row) → int_lt (pos 0) (coefficient x first) ≡ true → int_lt (coefficient x second) (pos 0) ≡ true → holds p first ≡ true → holds p second ≡ true → holds p (paired x first second) ≡ true
paired_holds x p first second tf ts hf hs =
    test-from_Holds p (paired x first second) (combined_holds first second (neg_ℤ (coefficient x second)) (coefficient x first) p (omega (arith, ints, ts)) (omega (arith, ints, tf)) (Holds-from_test p first hf) (Holds-from_test p second hs))

with_seconds : (x : ℕ) (p : List ℤ) (first : Row) (seconds : List Row) → int_lt (pos 0) (coefficient x first) ≡ true → list_all (λ row. int_lt (coefficient x row) (pos 0)) seconds ≡ true → holds p first ≡ true → all_hold p seconds ≡ true → all_hold p (map (paired x first) seconds) ≡ true
with_seconds x p first [] tf n hf h = refl
with_seconds x p first (second ∷ seconds) tf n hf h =
    let ns = both {a = int_lt (coefficient x second) (pos 0)} {b = list_all (λ row. int_lt (coefficient x row) (pos 0)) seconds} n in
    let hs = both {a = holds p second} {b = all_hold p seconds} h in
    and_true (paired_holds x p first second tf ns.0 hf hs.0) (with_seconds x p first seconds tf ns.1 hf hs.1)

with_firsts : (x : ℕ) (p : List ℤ) (firsts seconds : List Row) → list_all (λ row. int_lt (pos 0) (coefficient x row)) firsts ≡ true → list_all (λ row. int_lt (coefficient x row) (pos 0)) seconds ≡ true → all_hold p firsts ≡ true → all_hold p seconds ≡ true → all_hold p (flat_map (λ first. map (paired x first) seconds) firsts) ≡ true
with_firsts x p [] seconds f n hf hs = refl
with_firsts x p (first ∷ firsts) seconds f n hf hs =
    let fs = both {a = int_lt (pos 0) (coefficient x first)} {b = list_all (λ row. int_lt (pos 0) (coefficient x row)) firsts} f in
    let hfs = both {a = holds p first} {b = all_hold p firsts} hf in
    list_all-append (holds p) (map (paired x first) seconds) (flat_map (λ g. map (paired x g) seconds) firsts)
    ∙ and_true (with_seconds x p first seconds fs.0 n hfs.0 hs) (with_firsts x p firsts seconds fs.1 n hfs.1 hs)

pairs_hold : (x : ℕ) (p : List ℤ) (rows : List Row) → all_hold p rows ≡ true → all_hold p (pairs x rows) ≡ true
pairs_hold x p rows h =
    with_firsts x p (positives x rows) (negatives x rows)
    (filter_passed (λ row. int_lt (pos 0) (coefficient x row)) rows) (filter_passed (λ row. int_lt (coefficient x row) (pos 0)) rows)
    (all_filtered (holds p) (λ row. int_lt (pos 0) (coefficient x row)) rows h) (all_filtered (holds p) (λ row. int_lt (coefficient x row) (pos 0)) rows h)

-- ---- the bounds of a variable

lowers_hold : (n x : ℕ) (p : List ℤ) (rows : List Row) → x < n → x < length p → All (λ row. length row.coefficients ≡ n) rows → all_hold p rows ≡ true → list_all (λ z. not (int_lt (get_or p x (pos 0)) z)) (lower_bounds x rows) ≡ true
lowers_hold n x p [] hn l f h = refl
lowers_hold n x p (row ∷ rows) hn l f h =
    let parts = both {a = holds p row} {b = all_hold p rows} h in
    by_test (is_unit_row x (pos 1) row) refl parts.0 (lowers_hold n x p rows hn l (All-tail (λ r. length r.coefficients ≡ n) row rows f) parts.1)
  where
    not_above : (v z : ℤ) → z ≤ℤ v → not (int_lt v z) ≡ true
    not_above v z h = grind (arith, ints, h)

    by_test : (b : Bool) → is_unit_row x (pos 1) row ≡ b → holds p row ≡ true → list_all (λ z. not (int_lt (get_or p x (pos 0)) z)) (lower_bounds x rows) ≡ true → list_all (λ z. not (int_lt (get_or p x (pos 0)) z)) (map (λ r. r.least) (cond b (row ∷ filter (is_unit_row x (pos 1)) rows) (filter (is_unit_row x (pos 1)) rows))) ≡ true
    by_test true u h rest =
        let same = unit_is n x (pos 1) row (All-head (λ r. length r.coefficients ≡ n) row rows f) u in
        let sum = ap (λ (r : Row). product_sum r.coefficients p) same ∙ unit_sum n x (pos 1) p hn l in
        let t = Holds-from_test p row h in
        and_true (not_above (get_or p x (pos 0)) row.least (omega (arith, ints, t, sum))) rest
    by_test false u h rest = rest

uppers_hold : (n x : ℕ) (p : List ℤ) (rows : List Row) → x < n → x < length p → All (λ row. length row.coefficients ≡ n) rows → all_hold p rows ≡ true → list_all (λ z. not (int_lt z (get_or p x (pos 0)))) (upper_bounds x rows) ≡ true
uppers_hold n x p [] hn l f h = refl
uppers_hold n x p (row ∷ rows) hn l f h =
    let parts = both {a = holds p row} {b = all_hold p rows} h in
    by_test (is_unit_row x (negsuc 0) row) refl parts.0 (uppers_hold n x p rows hn l (All-tail (λ r. length r.coefficients ≡ n) row rows f) parts.1)
  where
    not_below : (v z : ℤ) → v ≤ℤ z → not (int_lt z v) ≡ true
    not_below v z h = grind (arith, ints, h)

    by_test : (b : Bool) → is_unit_row x (negsuc 0) row ≡ b → holds p row ≡ true → list_all (λ z. not (int_lt z (get_or p x (pos 0)))) (upper_bounds x rows) ≡ true → list_all (λ z. not (int_lt z (get_or p x (pos 0)))) (map (λ r. neg_ℤ r.least) (cond b (row ∷ filter (is_unit_row x (negsuc 0)) rows) (filter (is_unit_row x (negsuc 0)) rows))) ≡ true
    by_test true u h rest =
        let same = unit_is n x (negsuc 0) row (All-head (λ r. length r.coefficients ≡ n) row rows f) u in
        let sum = ap (λ (r : Row). product_sum r.coefficients p) same ∙ unit_sum n x (negsuc 0) p hn l in
        let t = Holds-from_test p row h in
        and_true (not_below (get_or p x (pos 0)) (neg_ℤ row.least) (omega (arith, ints, t, sum))) rest
    by_test false u h rest = rest

-- what no member exceeds, the greatest does not
greatest_below_bound : (v best : ℤ) (zs : List ℤ) → not (int_lt v best) ≡ true → list_all (λ z. not (int_lt v z)) zs ≡ true → not (int_lt v (fold int_max best zs)) ≡ true
greatest_below_bound v best [] b h = b
greatest_below_bound v best (z ∷ zs) b h =
    let parts = both {a = not (int_lt v z)} {b = list_all (λ y. not (int_lt v y)) zs} h in
    greatest_below_bound v (int_max best z) zs (either_of (int_lt z best) b parts.0) parts.1
  where
    either_of : (t : Bool) → not (int_lt v best) ≡ true → not (int_lt v z) ≡ true → not (int_lt v (cond t best z)) ≡ true
    either_of true p q = p
    either_of false p q = q

least_above_bound : (v best : ℤ) (zs : List ℤ) → not (int_lt best v) ≡ true → list_all (λ z. not (int_lt z v)) zs ≡ true → not (int_lt (fold int_min best zs) v) ≡ true
least_above_bound v best [] b h = b
least_above_bound v best (z ∷ zs) b h =
    let parts = both {a = not (int_lt z v)} {b = list_all (λ y. not (int_lt y v)) zs} h in
    least_above_bound v (int_min best z) zs (either_of (int_lt z best) b parts.0) parts.1
  where
    either_of : (t : Bool) → not (int_lt best v) ≡ true → not (int_lt z v) ≡ true → not (int_lt (cond t z best) v) ≡ true
    either_of true p q = q
    either_of false p q = p

at_least_greatest : (v low : ℤ) (zs : List ℤ) → greatest_of zs ≡ Some low → list_all (λ z. not (int_lt v z)) zs ≡ true → low ≤ℤ v
at_least_greatest v low [] e h = absurd (cc)
at_least_greatest v low (z ∷ zs) e h =
    let parts = both {a = not (int_lt v z)} {b = list_all (λ y. not (int_lt v y)) zs} h in
    let g = greatest_below_bound v z zs parts.0 parts.1 in
    let same : fold int_max z zs ≡ low = cc in
    le_from low (subst (λ (y : ℤ). not (int_lt v y) ≡ true) same g)
  where
    le_from : (y : ℤ) → not (int_lt v y) ≡ true → y ≤ℤ v
    le_from y t = grind (arith, ints, t)

at_most_least : (v high : ℤ) (zs : List ℤ) → least_of zs ≡ Some high → list_all (λ z. not (int_lt z v)) zs ≡ true → v ≤ℤ high
at_most_least v high [] e h = absurd (cc)
at_most_least v high (z ∷ zs) e h =
    let parts = both {a = not (int_lt z v)} {b = list_all (λ y. not (int_lt y v)) zs} h in
    let g = least_above_bound v z zs parts.0 parts.1 in
    let same : fold int_min z zs ≡ high = cc in
    le_from high (subst (λ (y : ℤ). not (int_lt y v) ≡ true) same g)
  where
    le_from : (y : ℤ) → not (int_lt y v) ≡ true → v ≤ℤ y
    le_from y t = grind (arith, ints, t)

both_bounds : (low high : Option ℤ) (v : ℤ) → common_value low high ≡ Some v → (low ≡ Some v) × (high ≡ Some v)
both_bounds None high v e = absurd (cc)
both_bounds (Some l) None v e = absurd (cc)
both_bounds (Some l) (Some h) v e = by_test (int_eq l h) refl e
  where
    by_test : (b : Bool) → int_eq l h ≡ b → cond b (Some l) None ≡ Some v → (Some l ≡ Some v) × (Some h ≡ Some v)
    by_test true t e = (e, ap (λ (z : ℤ). Some z) (sym ((Decides-int_eq l h).0 t)) ∙ e)
    by_test false t e = absurd (cc)

at_bounds : (n x : ℕ) (v : ℤ) (p : List ℤ) (rows : List Row) → x < n → x < length p → v ≤ℤ get_or p x (pos 0) → get_or p x (pos 0) ≤ℤ v → all_hold p rows ≡ true → list_all (has x) rows ≡ true → all_hold p (map (at_value n x v) rows) ≡ true
at_bounds n x v p [] hn l lo hi h t = refl
at_bounds n x v p (row ∷ rows) hn l lo hi h t =
    let parts = both {a = holds p row} {b = all_hold p rows} h in
    let ts = both {a = has x row} {b = list_all (has x) rows} t in
    and_true (by_sign (int_lt (pos 0) (coefficient x row)) refl parts.0) (at_bounds n x v p rows hn l lo hi parts.1 ts.1)
  where
    low_holds : Holds (at_least n x v) p
    low_holds = let s = unit_sum n x (pos 1) p hn l in omega (arith, ints, s, lo)

    high_holds : Holds (at_most n x v) p
    high_holds = let s = unit_sum n x (negsuc 0) p hn l in omega (arith, ints, s, hi)

    by_sign : (b : Bool) → int_lt (pos 0) (coefficient x row) ≡ b → holds p row ≡ true → holds p (cond b (combined row (pos 1) (at_most n x v) (coefficient x row)) (combined row (pos 1) (at_least n x v) (neg_ℤ (coefficient x row)))) ≡ true
    by_sign true e h = test-from_Holds p (combined row (pos 1) (at_most n x v) (coefficient x row)) (combined_holds row (at_most n x v) (pos 1) (coefficient x row) p (omega (arith, ints)) (omega (arith, ints, e)) (Holds-from_test p row h) high_holds)
    by_sign false e h = test-from_Holds p (combined row (pos 1) (at_least n x v) (neg_ℤ (coefficient x row))) (combined_holds row (at_least n x v) (pos 1) (neg_ℤ (coefficient x row)) p (omega (arith, ints)) (omega (arith, ints, e)) (Holds-from_test p row h) low_holds)

-- elimination loses no point
pub eliminated_holds : (n x : ℕ) (p : List ℤ) (rows : List Row) → x < n → x < length p → All (λ row. length row.coefficients ≡ n) rows → all_hold p rows ≡ true → all_hold p (eliminated n x rows) ≡ true
eliminated_holds n x p rows hn l f h =
    joined_holds p (without x rows) (replaced n x rows (fixed_value x rows)) (all_filtered (holds p) (λ row. int_eq (coefficient x row) (pos 0)) rows h) (by_value (fixed_value x rows) refl)
  where
    by_value : (o : Option ℤ) → fixed_value x rows ≡ o → all_hold p (replaced n x rows o) ≡ true
    by_value None e = pairs_hold x p rows h
    by_value (Some v) e =
        let b = both_bounds (greatest_lower x rows) (least_upper x rows) v e in
        at_bounds n x v p (filter (has x) rows) hn l
        (at_least_greatest (get_or p x (pos 0)) v (lower_bounds x rows) b.0 (lowers_hold n x p rows hn l f h))
        (at_most_least (get_or p x (pos 0)) v (upper_bounds x rows) b.1 (uppers_hold n x p rows hn l f h))
        (all_filtered (holds p) (has x) rows h) (filter_passed (has x) rows)
