-- Which variables occur after an elimination, and rows without variables.
use Rattle.std.proofs.Common.{◌≡◌, refl, sym, ap, subst, ◌∙◌, ℕ, zero, suc, ◌<◌, List, [], ◌∷◌, ◌++◌, map, get_or, length, replicate, Bool, true, false, cond, not, ◌&&◌, ◌||◌, ℤ, pos, negsuc, neg_ℤ, ◌*ℤ◌, ◌+ℤ◌, int_lt, Option, Some, None, inl, inr, ◌⊎◌, arith}
use Rattle.std.specs.List.{list_all, list_any, filter, flat_map}
use Rattle.std.specs.Ordering.{int_eq}
use Rattle.std.specs.Cmp.Lexicographic.{pointwise}
use Rattle.std.specs.Cmp.Rules.{signed_items}
use Rattle.std.proofs.lemmas.Int.{ints}
use Rattle.std.proofs.lemmas.Bool.{or_cases, cases_eq}
use Rattle.std.proofs.lemmas.Bool.Decides.{Decides-int_eq}
use Rattle.std.proofs.lemmas.List.Folds.{list_all-append, list_any-append}
use Rattle.std.proofs.Math.Nat.{zero-div}
use Rattle.std.proofs.Math.IntN.{*ℤ-zero, *ℤ_comm}
use Rattle.rx_linear.specs.declared.row.Row.{Row}
use Rattle.rx_model.specs.Sums.{weighted_sum}
use Rattle.rx_linear.specs.Divisors.{divided_down}
use Rattle.rx_linear.specs.Rows.{combined, tight, divisor_of}
use Rattle.rx_linear.specs.Joining.{holds, all_hold, has_no_variable, is_true, is_false, same_row, joined_one, joined}
use Rattle.rx_linear.specs.Units.{coefficient, unit, unit_row, is_unit_row}
use Rattle.rx_model.proofs.Ring.{neg_times_is}
use Rattle.rx_linear.proofs.Joining.{both, and_true, test-from_Holds, zero_products}
use Rattle.rx_shadow.specs.Simple.{clashes, any_below, greatest_below, positives, negatives, without, has, paired, is_exact, at_value, replaced, eliminated}
use Rattle.rx_shadow.specs.Bounds.{bounds_clash, fixed_value, IsBounded}

abbrev pub zero_at : ℕ → Row → Bool
zero_at y row = int_eq (coefficient y row) (pos 0)

abbrev pub all_zero : ℕ → List Row → Bool
all_zero y rows = list_all (zero_at y) rows

pub zero_is : (y : ℕ) (row : Row) → zero_at y row ≡ true → coefficient y row ≡ pos 0
zero_is y row t = (Decides-int_eq (coefficient y row) (pos 0)).0 t

pub zero_test : (y : ℕ) (row : Row) → coefficient y row ≡ pos 0 → zero_at y row ≡ true
zero_test y row e = (Decides-int_eq (coefficient y row) (pos 0)).1 e

-- ---- coefficients of what is made

get_or-mapped : (f : ℤ → ℤ) → f (pos 0) ≡ pos 0 → (cs : List ℤ) (y : ℕ) → get_or (map f cs) y (pos 0) ≡ f (get_or cs y (pos 0))
get_or-mapped f z [] y = sym z
get_or-mapped f z (c ∷ cs) zero = refl
get_or-mapped f z (c ∷ cs) (suc y) = get_or-mapped f z cs y

pub get_or-weighted : (ls rs : List ℤ) (a b : ℤ) (y : ℕ) → get_or (weighted_sum ls a rs b) y (pos 0) ≡ a *ℤ get_or ls y (pos 0) +ℤ b *ℤ get_or rs y (pos 0)
get_or-weighted [] rs a b y = get_or-mapped (λ r. b *ℤ r) (*ℤ-zero b) rs y ∙ omega (arith, ints, *ℤ-zero a)
get_or-weighted (l ∷ ls) [] a b zero = omega (arith, ints, *ℤ-zero b)
get_or-weighted (l ∷ ls) [] a b (suc y) = get_or-weighted ls [] a b y
get_or-weighted (l ∷ ls) (r ∷ rs) a b zero = refl
get_or-weighted (l ∷ ls) (r ∷ rs) a b (suc y) = get_or-weighted ls rs a b y

get_or-zeros : (n y : ℕ) → get_or (replicate n (pos 0)) y (pos 0) ≡ pos 0
get_or-zeros zero y = refl
get_or-zeros (suc n) zero = refl
get_or-zeros (suc n) (suc y) = get_or-zeros n y

get_or-unit_other : (n x y : ℕ) (a : ℤ) → (y ≡ x → ⊥) → get_or (unit n x a) y (pos 0) ≡ pos 0
get_or-unit_other zero x y a ne = refl
get_or-unit_other (suc n) zero zero a ne = absurd (ne refl)
get_or-unit_other (suc n) zero (suc y) a ne = get_or-zeros n y
get_or-unit_other (suc n) (suc x) zero a ne = refl
get_or-unit_other (suc n) (suc x) (suc y) a ne = get_or-unit_other n x y a (λ e. ne (ap suc e))

get_or-unit_same : (n x : ℕ) (a : ℤ) → x < n → get_or (unit n x a) x (pos 0) ≡ a
get_or-unit_same zero x a h = absurd (omega arith)
get_or-unit_same (suc n) zero a h = refl
get_or-unit_same (suc n) (suc x) a h = let l : x < n = omega arith in get_or-unit_same n x a l

pub down_zero : (d : ℕ) → divided_down (pos 0) d ≡ pos 0
down_zero d = ap pos (zero-div d)

pub zero_tight : (y : ℕ) (row : Row) → zero_at y row ≡ true → zero_at y (tight row) ≡ true
zero_tight y row t =
    zero_test y (tight row) (get_or-mapped (λ c. divided_down c (divisor_of row)) (down_zero (divisor_of row)) row.coefficients y ∙ ap (λ (z : ℤ). divided_down z (divisor_of row)) (zero_is y row t) ∙ down_zero (divisor_of row))

zero_joined_one : (y : ℕ) (rows : List Row) (row : Row) → all_zero y rows ≡ true → zero_at y row ≡ true → all_zero y (joined_one rows row) ≡ true
zero_joined_one y rows row hr h = by_test (is_true row || list_any (same_row row) rows)
  where
    by_test : (b : Bool) → all_zero y (cond b rows (rows ++ row ∷ [])) ≡ true
    by_test true = hr
    by_test false = list_all-append (zero_at y) rows (row ∷ []) ∙ and_true hr (and_true h refl)

pub zero_joined : (y : ℕ) (rows more : List Row) → all_zero y rows ≡ true → all_zero y more ≡ true → all_zero y (joined rows more) ≡ true
zero_joined y rows [] hr hm = hr
zero_joined y rows (row ∷ more) hr hm =
    let parts = both {a = zero_at y row} {b = all_zero y more} hm in
    zero_joined y (joined_one rows (tight row)) more (zero_joined_one y rows (tight row) hr (zero_tight y row parts.0)) parts.1

-- ---- filters and lists of pairs

pub all_filtered : (p q : Row → Bool) (rows : List Row) → list_all p rows ≡ true → list_all p (filter q rows) ≡ true
all_filtered p q [] h = refl
all_filtered p q (row ∷ rows) h =
    let parts = both {a = p row} {b = list_all p rows} h in
    by_test (q row) parts.0 (all_filtered p q rows parts.1)
  where
    by_test : (b : Bool) → p row ≡ true → list_all p (filter q rows) ≡ true → list_all p (cond b (row ∷ filter q rows) (filter q rows)) ≡ true
    by_test true h r = and_true h r
    by_test false h r = r

pub filter_passed : (q : Row → Bool) (rows : List Row) → list_all q (filter q rows) ≡ true
filter_passed q [] = refl
filter_passed q (row ∷ rows) = by_test (q row) refl (filter_passed q rows)
  where
    by_test : (b : Bool) → q row ≡ b → list_all q (filter q rows) ≡ true → list_all q (cond b (row ∷ filter q rows) (filter q rows)) ≡ true
    by_test true e r = and_true e r
    by_test false e r = r

pub any_filtered : (p q : Row → Bool) (rows : List Row) → ((row : Row) → p row ≡ true → q row ≡ true) → list_any p rows ≡ true → list_any p (filter q rows) ≡ true
any_filtered p q [] f h = h
any_filtered p q (row ∷ rows) f h = by_test (q row) refl (or_cases (p row) (list_any p rows) h) (any_filtered p q rows f)
  where
    by_test : (b : Bool) → q row ≡ b → (p row ≡ true) ⊎ (list_any p rows ≡ true) → (list_any p rows ≡ true → list_any p (filter q rows) ≡ true) → list_any p (cond b (row ∷ filter q rows) (filter q rows)) ≡ true
    by_test true e (inl t) r = ap (λ (z : Bool). z || list_any p (filter q rows)) t
    by_test true e (inr t) r = ap (λ (z : Bool). p row || z) (r t) ∙ or_last (p row)
      where
        or_last : (z : Bool) → (z || true) ≡ true
        or_last true = refl
        or_last false = refl
    by_test false e (inl t) r = absurd (let g = f row t in cc)
    by_test false e (inr t) r = r t

-- ---- after an elimination, another variable that did not occur does not, and the eliminated one does not

zero_combined : (y : ℕ) (l r : Row) (a b : ℤ) → a *ℤ coefficient y l +ℤ b *ℤ coefficient y r ≡ pos 0 → zero_at y (combined l a r b) ≡ true
zero_combined y l r a b e = zero_test y (combined l a r b) (get_or-weighted l.coefficients r.coefficients a b y ∙ e)

both_zero : (a b c d : ℤ) → c ≡ pos 0 → d ≡ pos 0 → a *ℤ c +ℤ b *ℤ d ≡ pos 0
both_zero a b c d e f = ap (λ (z : ℤ). a *ℤ z +ℤ b *ℤ d) e ∙ ap (λ (z : ℤ). a *ℤ pos 0 +ℤ b *ℤ z) f ∙ omega (arith, ints, *ℤ-zero a, *ℤ-zero b)

opposites : (a b : ℤ) → neg_ℤ b *ℤ a +ℤ a *ℤ b ≡ pos 0
opposites a b = omega (arith, ints, neg_times_is b a, *ℤ_comm b a)

pairs_of : (y x : ℕ) (first : Row) (seconds : List Row) → ((second : Row) → zero_at y second ≡ true → zero_at y (paired x first second) ≡ true) → all_zero y seconds ≡ true → all_zero y (map (paired x first) seconds) ≡ true
pairs_of y x first [] f h = refl
pairs_of y x first (second ∷ seconds) f h =
    let parts = both {a = zero_at y second} {b = all_zero y seconds} h in
    and_true (f second parts.0) (pairs_of y x first seconds f parts.1)

zero_pairs_other : (y x : ℕ) (firsts seconds : List Row) → all_zero y firsts ≡ true → all_zero y seconds ≡ true → all_zero y (flat_map (λ first. map (paired x first) seconds) firsts) ≡ true
zero_pairs_other y x [] seconds hf hs = refl
zero_pairs_other y x (first ∷ firsts) seconds hf hs =
    let parts = both {a = zero_at y first} {b = all_zero y firsts} hf in
    list_all-append (zero_at y) (map (paired x first) seconds) (flat_map (λ f. map (paired x f) seconds) firsts)
    ∙ and_true
    (pairs_of y x first seconds (λ second t. zero_combined y first second (neg_ℤ (coefficient x second)) (coefficient x first) (both_zero (neg_ℤ (coefficient x second)) (coefficient x first) (coefficient y first) (coefficient y second) (zero_is y first parts.0) (zero_is y second t))) hs)
    (zero_pairs_other y x firsts seconds parts.1 hs)

zero_pairs_of_self : (x : ℕ) (first : Row) (seconds : List Row) → all_zero x (map (paired x first) seconds) ≡ true
zero_pairs_of_self x first [] = refl
zero_pairs_of_self x first (second ∷ seconds) = and_true (zero_combined x first second (neg_ℤ (coefficient x second)) (coefficient x first) (opposites (coefficient x first) (coefficient x second))) (zero_pairs_of_self x first seconds)

zero_pairs_self : (x : ℕ) (firsts seconds : List Row) → all_zero x (flat_map (λ first. map (paired x first) seconds) firsts) ≡ true
zero_pairs_self x [] seconds = refl
zero_pairs_self x (first ∷ firsts) seconds =
    list_all-append (zero_at x) (map (paired x first) seconds) (flat_map (λ f. map (paired x f) seconds) firsts) ∙ and_true (zero_pairs_of_self x first seconds) (zero_pairs_self x firsts seconds)

zero_at_value_other : (n x y : ℕ) (v : ℤ) (row : Row) → (y ≡ x → ⊥) → zero_at y row ≡ true → zero_at y (at_value n x v row) ≡ true
zero_at_value_other n x y v row ne t = by_sign (int_lt (pos 0) (coefficient x row))
  where
    by_sign : (b : Bool) → zero_at y (cond b (combined row (pos 1) (unit_row n x (negsuc 0) (neg_ℤ v)) (coefficient x row)) (combined row (pos 1) (unit_row n x (pos 1) v) (neg_ℤ (coefficient x row)))) ≡ true
    by_sign true = zero_combined y row (unit_row n x (negsuc 0) (neg_ℤ v)) (pos 1) (coefficient x row) (both_zero (pos 1) (coefficient x row) (coefficient y row) (coefficient y (unit_row n x (negsuc 0) (neg_ℤ v))) (zero_is y row t) (get_or-unit_other n x y (negsuc 0) ne))
    by_sign false = zero_combined y row (unit_row n x (pos 1) v) (pos 1) (neg_ℤ (coefficient x row)) (both_zero (pos 1) (neg_ℤ (coefficient x row)) (coefficient y row) (coefficient y (unit_row n x (pos 1) v)) (zero_is y row t) (get_or-unit_other n x y (pos 1) ne))

zero_at_value_self : (n x : ℕ) (v : ℤ) (row : Row) → x < n → zero_at x (at_value n x v row) ≡ true
zero_at_value_self n x v row h = by_sign (int_lt (pos 0) (coefficient x row))
  where
    by_sign : (b : Bool) → zero_at x (cond b (combined row (pos 1) (unit_row n x (negsuc 0) (neg_ℤ v)) (coefficient x row)) (combined row (pos 1) (unit_row n x (pos 1) v) (neg_ℤ (coefficient x row)))) ≡ true
    by_sign true = zero_combined x row (unit_row n x (negsuc 0) (neg_ℤ v)) (pos 1) (coefficient x row) (ap (λ (z : ℤ). pos 1 *ℤ coefficient x row +ℤ coefficient x row *ℤ z) (get_or-unit_same n x (negsuc 0) h) ∙ omega (arith, ints))
    by_sign false = zero_combined x row (unit_row n x (pos 1) v) (pos 1) (neg_ℤ (coefficient x row)) (ap (λ (z : ℤ). pos 1 *ℤ coefficient x row +ℤ neg_ℤ (coefficient x row) *ℤ z) (get_or-unit_same n x (pos 1) h) ∙ omega (arith, ints))

zero_values_other : (n x y : ℕ) (v : ℤ) (rows : List Row) → (y ≡ x → ⊥) → all_zero y rows ≡ true → all_zero y (map (at_value n x v) rows) ≡ true
zero_values_other n x y v [] ne h = refl
zero_values_other n x y v (row ∷ rows) ne h =
    let parts = both {a = zero_at y row} {b = all_zero y rows} h in
    and_true (zero_at_value_other n x y v row ne parts.0) (zero_values_other n x y v rows ne parts.1)

zero_values_self : (n x : ℕ) (v : ℤ) (rows : List Row) → x < n → all_zero x (map (at_value n x v) rows) ≡ true
zero_values_self n x v [] h = refl
zero_values_self n x v (row ∷ rows) h = and_true (zero_at_value_self n x v row h) (zero_values_self n x v rows h)

zero_replaced_other : (n x y : ℕ) (rows : List Row) (o : Option ℤ) → (y ≡ x → ⊥) → all_zero y rows ≡ true → all_zero y (replaced n x rows o) ≡ true
zero_replaced_other n x y rows None ne h =
    zero_pairs_other y x (positives x rows) (negatives x rows) (all_filtered (zero_at y) (λ row. int_lt (pos 0) (coefficient x row)) rows h) (all_filtered (zero_at y) (λ row. int_lt (coefficient x row) (pos 0)) rows h)
zero_replaced_other n x y rows (Some v) ne h = zero_values_other n x y v (filter (has x) rows) ne (all_filtered (zero_at y) (has x) rows h)

zero_replaced_self : (n x : ℕ) (rows : List Row) (o : Option ℤ) → x < n → all_zero x (replaced n x rows o) ≡ true
zero_replaced_self n x rows None h = zero_pairs_self x (positives x rows) (negatives x rows)
zero_replaced_self n x rows (Some v) h = zero_values_self n x v (filter (has x) rows) h

-- ---- each variable does not occur, or has a unit row with the coefficient a

pub unit_other : (a : ℤ) (x y : ℕ) (row : Row) → (x ≡ y → ⊥) → is_unit_row y a row ≡ true → zero_at x row ≡ true
unit_other a x y row ne t =
    let parts = both {a = int_eq (coefficient y row) a} {b = pointwise int_eq row.coefficients (unit (length row.coefficients) y a)} t in
    let e = (signed_items row.coefficients (unit (length row.coefficients) y a)).0 parts.1 in
    zero_test x row (ap (λ (zs : List ℤ). get_or zs x (pos 0)) e ∙ get_or-unit_other (length row.coefficients) y x a ne)

any_joined_one : (p : Row → Bool) (rows : List Row) (row : Row) → list_any p rows ≡ true → list_any p (joined_one rows row) ≡ true
any_joined_one p rows row h = by_test (is_true row || list_any (same_row row) rows)
  where
    by_test : (b : Bool) → list_any p (cond b rows (rows ++ row ∷ [])) ≡ true
    by_test true = h
    by_test false = list_any-append p rows (row ∷ []) ∙ ap (λ (z : Bool). z || list_any p (row ∷ [])) h

pub any_joined : (p : Row → Bool) (rows more : List Row) → list_any p rows ≡ true → list_any p (joined rows more) ≡ true
any_joined p rows [] h = h
any_joined p rows (row ∷ more) h = any_joined p (joined_one rows (tight row)) more (any_joined_one p rows (tight row) h)

-- the eliminated variable does not come back
pub zero_eliminated_self : (n x : ℕ) (rows : List Row) → x < n → all_zero x (eliminated n x rows) ≡ true
zero_eliminated_self n x rows hx = zero_joined x (without x rows) (replaced n x rows (fixed_value x rows)) (filter_passed (zero_at x) rows) (zero_replaced_self n x rows (fixed_value x rows) hx)

-- and a variable that does not occur does not come
pub zero_eliminated_other : (n x y : ℕ) (rows : List Row) → (y ≡ x → ⊥) → all_zero y rows ≡ true → all_zero y (eliminated n x rows) ≡ true
zero_eliminated_other n x y rows ne z = zero_joined y (without x rows) (replaced n x rows (fixed_value x rows)) (all_filtered (zero_at y) (zero_at x) rows z) (zero_replaced_other n x y rows (fixed_value x rows) ne z)

pub bounded_eliminated : (a : ℤ) (n x : ℕ) (rows : List Row) → x < n → IsBounded a n rows → IsBounded a n (eliminated n x rows)
bounded_eliminated a n x rows hx b y hy = by_eq (cases_eq y x) (b y hy)
  where
    by_eq : (y ≡ x) ⊎ (y ≡ x → ⊥) → (all_zero y rows ≡ true) ⊎ (list_any (is_unit_row y a) rows ≡ true) → (all_zero y (eliminated n x rows) ≡ true) ⊎ (list_any (is_unit_row y a) (eliminated n x rows) ≡ true)
    by_eq (inl e) c = inl (subst (λ (z : ℕ). all_zero z (eliminated n x rows) ≡ true) (sym e) (zero_eliminated_self n x rows hx))
    by_eq (inr ne) (inl z) = inl (zero_eliminated_other n x y rows ne z)
    by_eq (inr ne) (inr u) = inr (any_joined (is_unit_row y a) (without x rows) (replaced n x rows (fixed_value x rows)) (any_filtered (is_unit_row y a) (zero_at x) rows (λ row t. unit_other a x y row (λ e. ne (sym e)) t) u))

-- ---- the point

pub unit_positive : (x : ℕ) (row : Row) → is_unit_row x (pos 1) row ≡ true → int_lt (pos 0) (coefficient x row) ≡ true
unit_positive x row t =
    let parts = both {a = int_eq (coefficient x row) (pos 1)} {b = pointwise int_eq row.coefficients (unit (length row.coefficients) x (pos 1))} t in
    ap (int_lt (pos 0)) ((Decides-int_eq (coefficient x row) (pos 1)).0 parts.0)

pub some_row : (p : Row → Bool) (rows : List Row) → list_any p rows ≡ true → 0 < length rows
some_row p [] h = absurd (cc)
some_row p (row ∷ rows) h = omega arith

pub not_both : (x : ℕ) (rows : List Row) → all_zero x rows ≡ true → list_any (has x) rows ≡ true → ⊥
not_both x [] z h = cc
not_both x (row ∷ rows) z h =
    let parts = both {a = zero_at x row} {b = all_zero x rows} z in
    by_test (zero_at x row) refl parts.0 h (not_both x rows parts.1)
  where
    by_test : (b : Bool) → zero_at x row ≡ b → zero_at x row ≡ true → (not b || list_any (has x) rows) ≡ true → (list_any (has x) rows ≡ true → ⊥) → ⊥
    by_test true e z h r = r h
    by_test false e z h r = cc

pub has_positive : (n x : ℕ) (rows : List Row) → x < n → IsBounded (pos 1) n rows → is_exact rows x ≡ true → 0 < length (positives x rows)
has_positive n x rows hx b e =
    let occurs = (both {a = list_any (has x) rows} e).0 in
    elim (b x hx) [
      | inl z ↦ absurd (not_both x rows z occurs)
      | inr u ↦ some_row (is_unit_row x (pos 1)) (positives x rows) (any_filtered (is_unit_row x (pos 1)) (λ row. int_lt (pos 0) (coefficient x row)) rows (unit_positive x) u)
    ]

plain_holds : (point : List ℤ) (row : Row) → is_false row ≡ false → has_no_variable row ≡ true → holds point row ≡ true
plain_holds point row f h =
    let z = zero_products row.coefficients point h in
    let le : int_lt (pos 0) row.least ≡ false = sym (ap (λ (b : Bool). b && int_lt (pos 0) row.least) h) ∙ f in
    test-from_Holds point row (omega (arith, ints, z, le))

pub plain_hold : (point : List ℤ) (rows : List Row) → list_any is_false rows ≡ false → list_all has_no_variable rows ≡ true → all_hold point rows ≡ true
plain_hold point [] f h = refl
plain_hold point (row ∷ rows) f h =
    let parts = both {a = has_no_variable row} {b = list_all has_no_variable rows} h in
    let first = neither (is_false row) (list_any is_false rows) f in
    and_true (plain_holds point row first.0 parts.0) (plain_hold point rows first.1 parts.1)
  where
    neither : (a b : Bool) → (a || b) ≡ false → (a ≡ false) × (b ≡ false)
    neither true b e = absurd (cc)
    neither false b e = (refl, e)

pub no_clash : (n : ℕ) (rows : List Row) → clashes n rows ≡ false → list_any is_false rows ≡ false
no_clash n rows e = neither (list_any is_false rows) (any_below (λ x. bounds_clash x rows) n) e
  where
    neither : (a b : Bool) → (a || b) ≡ false → a ≡ false
    neither true b e = absurd (cc)
    neither false b e = refl

pub below_found : (test : ℕ → Bool) (n x : ℕ) → greatest_below test n ≡ Some x → (x < n) × (test x ≡ true)
below_found test zero x e = absurd (cc)
below_found test (suc n) x e = by_test (test n) refl e (below_found test n x)
  where
    by_test : (b : Bool) → test n ≡ b → cond b (Some n) (greatest_below test n) ≡ Some x → (greatest_below test n ≡ Some x → (x < n) × (test x ≡ true)) → (x < suc n) × (test x ≡ true)
    by_test true t e r = let same : n ≡ x = cc in (omega (arith, same), subst (λ (m : ℕ). test m ≡ true) same t)
    by_test false t e r = let p = r e in (omega (arith, p.0), p.1)
