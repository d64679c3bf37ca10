-- One elimination loses no point.
use Rattle.std.proofs.Common.{◌≡◌, refl, sym, ap, subst, ◌∙◌, ℕ, zero, suc, ◌<◌, List, [], ◌∷◌, ◌++◌, map, set, get_or, length, replicate, Option, Some, None, Bool, true, false, cond, not, ◌||◌, ℤ, pos, negsuc, neg_ℤ, ◌*ℤ◌, ◌+ℤ◌, ◌≤ℤ◌, int_lt, int_le, inl, inr, ◌⊎◌, arith}
use Rattle.std.specs.List.{list_any, filter}
use Rattle.std.specs.Option.{is_some}
use Rattle.std.specs.Ordering.{int_eq}
use Rattle.std.specs.Cmp.Lexicographic.{pointwise}
use Rattle.std.specs.Cmp.Rules.{signed_items}
use Rattle.std.proofs.lemmas.Int.{ints}
use Rattle.std.proofs.lemmas.Bool.{or_cases}
use Rattle.std.proofs.lemmas.Bool.Decides.{Decides-int_eq}
use Rattle.std.proofs.lemmas.List.Folds.{list_all-append}
use Rattle.std.proofs.Math.IntN.{zero-*ℤ}
use Rattle.rx_linear.specs.declared.row.Row.{Row}
use Rattle.rx_model.specs.Sums.{product_sum}
use Rattle.rx_linear.specs.Rows.{combined, tight}
use Rattle.rx_linear.specs.Joining.{holds, all_hold, has_no_variable, is_true, same_row, joined_one, joined}
use Rattle.rx_linear.specs.Units.{coefficient, unit, unit_row}
use Rattle.rx_model.proofs.Sums.{product_sum-weighted}
use Rattle.rx_model.proofs.Ring.{neg_times_is, times_neg_is}
use Rattle.rx_linear.proofs.Soundness.{tight_holds_always}
use Rattle.rx_linear.proofs.Joining.{both, and_true, Holds-from_test, test-from_Holds, zero_products}
use Rattle.rx_shadow.specs.Simple.{positives, without, has, has_unit_pairs, is_exact, at_value, replaced, eliminated}
use Rattle.rx_shadow.specs.Bounds.{fixed_value}
use Rattle.rx_shadow.proofs.Pairs.{product_sum-set, own_value, rest_at, exact_elimination}

-- ---- joining keeps no point that the new rows refuse

same_row_holds : (point : List ℤ) (a b : Row) → same_row a b ≡ true → holds point b ≡ true → holds point a ≡ true
same_row_holds point a b e h =
    let parts = both {a = int_eq a.least b.least} {b = pointwise int_eq a.coefficients b.coefficients} e in
    let el = (Decides-int_eq a.least b.least).0 parts.0 in
    let ec = (signed_items a.coefficients b.coefficients).0 parts.1 in
    ap (λ (z : ℤ). int_le z (product_sum a.coefficients point)) el ∙ ap (λ (zs : List ℤ). int_le b.least (product_sum zs point)) ec ∙ h

some_row_holds : (point : List ℤ) (row : Row) (rows : List Row) → list_any (same_row row) rows ≡ true → all_hold point rows ≡ true → holds point row ≡ true
some_row_holds point row [] a h = absurd (cc)
some_row_holds point row (r ∷ rows) a h =
    let parts = both {a = holds point r} {b = all_hold point rows} h in
    pick (or_cases (same_row row r) (list_any (same_row row) rows) a) parts.0 (λ t. some_row_holds point row rows t parts.1)
  where
    pick : (same_row row r ≡ true) ⊎ (list_any (same_row row) rows ≡ true) → holds point r ≡ true → (list_any (same_row row) rows ≡ true → holds point row ≡ true) → holds point row ≡ true
    pick (inl e) h rest = same_row_holds point row r e h
    pick (inr t) h rest = rest t

true_row_holds : (point : List ℤ) (row : Row) → is_true row ≡ true → holds point row ≡ true
true_row_holds point row t =
    let parts = both {a = has_no_variable row} {b = int_le row.least (pos 0)} t in
    let z = zero_products row.coefficients point parts.0 in
    test-from_Holds point row (omega (arith, ints, z, parts.1))

joined_one_back : (point : List ℤ) (rows : List Row) (row : Row) → all_hold point (joined_one rows row) ≡ true → (all_hold point rows ≡ true) × (holds point row ≡ true)
joined_one_back point rows row h = by_test (is_true row || list_any (same_row row) rows) refl h
  where
    by_test : (b : Bool) → (is_true row || list_any (same_row row) rows) ≡ b → all_hold point (cond b rows (rows ++ row ∷ [])) ≡ true → (all_hold point rows ≡ true) × (holds point row ≡ true)
    by_test true e h = (h, elim (or_cases (is_true row) (list_any (same_row row) rows) e) [ inl t ↦ true_row_holds point row t | inr s ↦ some_row_holds point row rows s h ])
    by_test false e h =
        let parts = both {a = all_hold point rows} {b = all_hold point (row ∷ [])} (sym (list_all-append (holds point) rows (row ∷ [])) ∙ h) in
        (parts.0, (both {a = holds point row} {b = true} parts.1).0)

pub joined_back : (point : List ℤ) (rows more : List Row) → all_hold point (joined rows more) ≡ true → (all_hold point rows ≡ true) × (all_hold point more ≡ true)
joined_back point rows [] h = (h, refl)
joined_back point rows (row ∷ more) h =
    let rest = joined_back point (joined_one rows (tight row)) more h in
    let one = joined_one_back point rows (tight row) rest.0 in
    (one.0, and_true (test-from_Holds point row ((tight_holds_always row point).1 (Holds-from_test point (tight row) one.1))) rest.1)

-- ---- a variable that has one value

zeros : (n : ℕ) (point : List ℤ) → product_sum (replicate n (pos 0)) point ≡ pos 0
zeros zero point = refl
zeros (suc n) [] = refl
zeros (suc n) (x ∷ point) = omega (arith, ints, zeros n point, zero-*ℤ x)

pub unit_sum : (n x : ℕ) (a : ℤ) (point : List ℤ) → x < n → x < length point → product_sum (unit n x a) point ≡ a *ℤ get_or point x (pos 0)
unit_sum zero x a point h l = absurd (omega arith)
unit_sum (suc n) x a [] h l = absurd (omega arith)
unit_sum (suc n) zero a (y ∷ point) h l = omega (arith, ints, zeros n point)
unit_sum (suc n) (suc x) a (y ∷ point) h l =
    let hn : x < n = omega arith in
    let hl : x < length point = omega arith in
    omega (arith, ints, unit_sum n x a point hn hl, zero-*ℤ y)

positive_ring : (c v p rest least : ℤ) → (pos 1 *ℤ least +ℤ c *ℤ neg_ℤ v) ≤ℤ (pos 1 *ℤ (c *ℤ p +ℤ rest) +ℤ c *ℤ (negsuc 0 *ℤ p)) → least ≤ℤ (c *ℤ v +ℤ rest)
positive_ring c v p rest least h =
    let e1 = times_neg_is c v in
    let e2 : c *ℤ (negsuc 0 *ℤ p) ≡ neg_ℤ (c *ℤ p) = ap (λ (z : ℤ). c *ℤ z) (let m : negsuc 0 *ℤ p ≡ neg_ℤ p = omega (arith, ints) in m) ∙ times_neg_is c p in
    omega (arith, ints, h, e1, e2)

negative_ring : (c v p rest least : ℤ) → (pos 1 *ℤ least +ℤ neg_ℤ c *ℤ v) ≤ℤ (pos 1 *ℤ (c *ℤ p +ℤ rest) +ℤ neg_ℤ c *ℤ (pos 1 *ℤ p)) → least ≤ℤ (c *ℤ v +ℤ rest)
negative_ring c v p rest least h =
    let e1 = neg_times_is c v in
    let e2 : neg_ℤ c *ℤ (pos 1 *ℤ p) ≡ neg_ℤ (c *ℤ p) = ap (λ (z : ℤ). neg_ℤ c *ℤ z) (let m : pos 1 *ℤ p ≡ p = omega (arith, ints) in m) ∙ neg_times_is c p in
    omega (arith, ints, h, e1, e2)

-- the combination of the row and a unit row, at the point
combined_sum : (n x : ℕ) (row : Row) (point : List ℤ) (a least k : ℤ) → x < n → x < length point → product_sum (combined row (pos 1) (unit_row n x a least) k).coefficients point ≡ pos 1 *ℤ (coefficient x row *ℤ get_or point x (pos 0) +ℤ rest_at x point row) +ℤ k *ℤ (a *ℤ get_or point x (pos 0))
combined_sum n x row point a least k hn l =
    product_sum-weighted row.coefficients (unit n x a) point (pos 1) k
    ∙ ap (λ (z : ℤ). pos 1 *ℤ z +ℤ k *ℤ product_sum (unit n x a) point) (own_value x point row l)
    ∙ ap (λ (z : ℤ). pos 1 *ℤ (coefficient x row *ℤ get_or point x (pos 0) +ℤ rest_at x point row) +ℤ k *ℤ z) (unit_sum n x a point hn l)

at_value_back : (n x : ℕ) (v : ℤ) (row : Row) (point : List ℤ) → x < n → x < length point → holds point (at_value n x v row) ≡ true → holds (set point x v) row ≡ true
at_value_back n x v row point hn l h = by_sign (int_lt (pos 0) (coefficient x row)) h
  where
    at_v : product_sum row.coefficients (set point x v) ≡ coefficient x row *ℤ v +ℤ rest_at x point row
    at_v = product_sum-set row.coefficients point x v l

    done : row.least ≤ℤ (coefficient x row *ℤ v +ℤ rest_at x point row) → holds (set point x v) row ≡ true
    done g = test-from_Holds (set point x v) row (let a = at_v in omega (arith, ints, a, g))

    by_sign : (b : Bool) → holds point (cond b (combined row (pos 1) (unit_row n x (negsuc 0) (neg_ℤ v)) (coefficient x row)) (combined row (pos 1) (unit_row n x (pos 1) v) (neg_ℤ (coefficient x row)))) ≡ true → holds (set point x v) row ≡ true
    by_sign true h =
        done (positive_ring (coefficient x row) v (get_or point x (pos 0)) (rest_at x point row) row.least
        (subst (λ (z : ℤ). (pos 1 *ℤ row.least +ℤ coefficient x row *ℤ neg_ℤ v) ≤ℤ z) (combined_sum n x row point (negsuc 0) (neg_ℤ v) (coefficient x row) hn l)
        (Holds-from_test point (combined row (pos 1) (unit_row n x (negsuc 0) (neg_ℤ v)) (coefficient x row)) h)))
    by_sign false h =
        done (negative_ring (coefficient x row) v (get_or point x (pos 0)) (rest_at x point row) row.least
        (subst (λ (z : ℤ). (pos 1 *ℤ row.least +ℤ neg_ℤ (coefficient x row) *ℤ v) ≤ℤ z) (combined_sum n x row point (pos 1) v (neg_ℤ (coefficient x row)) hn l)
        (Holds-from_test point (combined row (pos 1) (unit_row n x (pos 1) v) (neg_ℤ (coefficient x row))) h)))

pub zero_row : (x : ℕ) (v : ℤ) (row : Row) (point : List ℤ) → x < length point → int_eq (coefficient x row) (pos 0) ≡ true → holds point row ≡ true → holds (set point x v) row ≡ true
zero_row x v row point l t g =
    let z = (Decides-int_eq (coefficient x row) (pos 0)).0 t in
    let h = Holds-from_test point row g in
    let o = own_value x point row l in
    let e : coefficient x row *ℤ v ≡ pos 0 = ap (λ (y : ℤ). y *ℤ v) z ∙ zero-*ℤ v in
    let f : coefficient x row *ℤ get_or point x (pos 0) ≡ pos 0 = ap (λ (y : ℤ). y *ℤ get_or point x (pos 0)) z ∙ zero-*ℤ (get_or point x (pos 0)) in
    test-from_Holds (set point x v) row (let a = product_sum-set row.coefficients point x v l in omega (arith, ints, a, h, o, e, f))

fixed_rows : (n x : ℕ) (v : ℤ) (rows : List Row) (point : List ℤ) → x < n → x < length point → all_hold point (without x rows) ≡ true → all_hold point (map (at_value n x v) (filter (has x) rows)) ≡ true → all_hold (set point x v) rows ≡ true
fixed_rows n x v [] point hn l hw hv = refl
fixed_rows n x v (row ∷ rows) point hn l hw hv =
    by_test (int_eq (coefficient x row) (pos 0)) refl hw hv (fixed_rows n x v rows point hn l)
  where
    by_test : (b : Bool) → int_eq (coefficient x row) (pos 0) ≡ b → all_hold point (cond b (row ∷ without x rows) (without x rows)) ≡ true → all_hold point (map (at_value n x v) (cond (not b) (row ∷ filter (has x) rows) (filter (has x) rows))) ≡ true → (all_hold point (without x rows) ≡ true → all_hold point (map (at_value n x v) (filter (has x) rows)) ≡ true → all_hold (set point x v) rows ≡ true) → all_hold (set point x v) (row ∷ rows) ≡ true
    by_test true e hw hv rest =
        let parts = both {a = holds point row} {b = all_hold point (without x rows)} hw in
        and_true (zero_row x v row point l e parts.0) (rest parts.1 hv)
    by_test false e hw hv rest =
        let parts = both {a = holds point (at_value n x v row)} {b = all_hold point (map (at_value n x v) (filter (has x) rows))} hv in
        and_true (at_value_back n x v row point hn l parts.0) (rest hw parts.1)

-- each point of what the elimination of an exact variable leaves becomes a point of all rows by a value of the variable
pub eliminated_back : (n x : ℕ) (rows : List Row) (point : List ℤ) → x < n → x < length point → is_exact rows x ≡ true → 0 < length (positives x rows) → all_hold point (eliminated n x rows) ≡ true → (v : ℤ) × (all_hold (set point x v) rows ≡ true)
eliminated_back n x rows point hn l exact some h = by_value (fixed_value x rows) refl (joined_back point (without x rows) (replaced n x rows (fixed_value x rows)) h)
  where
    unfixed : fixed_value x rows ≡ None → has_unit_pairs x rows ≡ true
    unfixed f =
        let parts = both {a = list_any (has x) rows} {b = is_some (fixed_value x rows) || has_unit_pairs x rows} exact in
        elim (or_cases (is_some (fixed_value x rows)) (has_unit_pairs x rows) parts.1) [ inl t ↦ absurd (let n = ap is_some f in cc) | inr p ↦ p ]

    by_value : (o : Option ℤ) → fixed_value x rows ≡ o → (all_hold point (without x rows) ≡ true) × (all_hold point (replaced n x rows o) ≡ true) → (v : ℤ) × (all_hold (set point x v) rows ≡ true)
    by_value None e parts = exact_elimination x rows point l (unfixed e) some parts.0 parts.1
    by_value (Some v) e parts = (v, fixed_rows n x v rows point hn l parts.0 parts.1)
