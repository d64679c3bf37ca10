-- The middle of a variable's values, and when its upper half is within the limits.
use Rattle.std.proofs.Common.{◌≡◌, refl, sym, ap, ◌∙◌, subst, ℕ, zero, suc, ◌*◌, ◌/◌, ◌%◌, ◌<◌, ◌≤◌, ◌^◌, arith, List, [], ◌∷◌, ◌++◌, map, length, replicate, max, Bool, true, false, cond, ◌||◌, ◌==◌, ℤ, pos, negsuc, neg_ℤ, ◌+ℤ◌, ◌-ℤ◌, ◌≤ℤ◌, ◌<ℤ◌, int_lt, unsigned_abs, Option, Some, None, option_map, inl, inr, ◌⊎◌}
use Rattle.std.specs.List.{All, list_all, list_any, filter, fold}
use Rattle.std.specs.Int.{int_max, int_div_euclid}
use Rattle.std.specs.Ordering.{int_eq}
use Rattle.std.specs.Cmp.Rules.{signed_items}
use Rattle.std.proofs.lemmas.Int.{ints, by_lt_z}
use Rattle.std.proofs.lemmas.Bool.{cases_lt}
use Rattle.std.proofs.lemmas.Bool.Decides.{Decides-int_eq}
use Rattle.std.proofs.lemmas.List.Elements.{All-nil, All-cons, All-head, All-tail}
use Rattle.rx_linear.specs.declared.row.Row.{Row}
use Rattle.rx_linear.specs.Divisors.{greatest, divides_all, sum_of_magnitudes, common_divisor_of, divided_down, divided_up}
use Rattle.rx_linear.specs.Rows.{tight, divisor_of}
use Rattle.rx_linear.specs.Systems.{FitsSystem, IsWithinLimits}
use Rattle.rx_linear.specs.Joining.{joined, joined_one, has_no_variable, is_true, is_false, same_row}
use Rattle.rx_linear.specs.Units.{unit, unit_row, is_unit_row, at_most}
use Rattle.rx_linear.proofs.Joining.{both, and_true}
use Rattle.rx_proof.specs.Acceptance.{Node, with_row}
use Rattle.rx_shadow.specs.Bounds.{greatest_of, greatest_lower, least_upper, bounds_clash, exceeds, HasUnitRows, narrowest, is_narrower, middle, middle_between}
use Rattle.rx_shadow.specs.Simple.{TrueRows, Neither, outcome, clashes, any_below}
use Rattle.rx_shadow.proofs.Closings.{unit_is, upper_is}
use Rattle.rx_shadow.proofs.Greatest.{greatest_constant}
use Rattle.rx_shadow.proofs.Raising.{no_unit}
use Rattle.rx_shadow.proofs.Outcomes.{outcome_true}

-- ---- a unit row is tight

zeros_magnitude : (n : ℕ) → sum_of_magnitudes (replicate n (pos 0)) ≡ 0
zeros_magnitude zero = refl
zeros_magnitude (suc n) = omega (arith, zeros_magnitude n)

unit_magnitude : (n x : ℕ) → x < n → sum_of_magnitudes (unit n x (negsuc 0)) ≡ 1
unit_magnitude zero x h = absurd (omega arith)
unit_magnitude (suc n) zero h = omega (arith, zeros_magnitude n)
unit_magnitude (suc n) (suc x) h = let l : x < n = omega arith in omega (arith, unit_magnitude n x l)

one_divides : (cs : List ℤ) → divides_all cs 1 ≡ true
one_divides [] = refl
one_divides (c ∷ cs) = and_true (let e : ((unsigned_abs c % 1) == 0) ≡ true = grind arith in e) (one_divides cs)

one_greatest : (test : ℕ → Bool) → test 1 ≡ true → greatest test 1 ≡ 1
unfolding greatest
one_greatest test t = ap (λ (b : Bool). cond b 1 (greatest test 0)) t

unit_divisor : (n x : ℕ) → x < n → common_divisor_of (unit n x (negsuc 0)) ≡ 1
unfolding common_divisor_of
unit_divisor n x h = ap (greatest (divides_all (unit n x (negsuc 0)))) (unit_magnitude n x h) ∙ one_greatest (divides_all (unit n x (negsuc 0))) (one_divides (unit n x (negsuc 0)))

down_one : (z : ℤ) → divided_down z 1 ≡ z
down_one (pos a) = omega (arith, ints)
down_one (negsuc a) = omega (arith, ints)

map_down_one : (cs : List ℤ) → map (λ c. divided_down c 1) cs ≡ cs
map_down_one [] = refl
map_down_one (c ∷ cs) = ap (λ (z : ℤ). z ∷ map (λ x. divided_down x 1) cs) (down_one c) ∙ ap (λ (zs : List ℤ). c ∷ zs) (map_down_one cs)

up_one : (z : ℤ) → divided_up z 1 ≡ z
up_one z = let s = down_one (neg_ℤ z) in omega (arith, ints, s)

abbrev pub divided : Row → ℕ → Row
divided row d = record { coefficients = map (λ c. divided_down c d) row.coefficients; least = divided_up row.least d }

pub upper_tight : (n x : ℕ) (c : ℤ) → x < n → tight (at_most n x c) ≡ at_most n x c
upper_tight n x c h =
    ap (λ (d : ℕ). divided (at_most n x c) d) (let e = unit_divisor n x h in let m : divisor_of (at_most n x c) ≡ 1 = ap (max 1) e in m)
    ∙ ap (λ (zs : List ℤ). let r : Row = record { coefficients = zs; least = divided_up (neg_ℤ c) 1 } in r) (map_down_one (unit n x (negsuc 0)))
    ∙ ap (λ (z : ℤ). unit_row n x (negsuc 0) z) (up_one (neg_ℤ c))

-- ---- the unit rows of a variable, as they stand among the rows

same_self : (row : Row) → same_row row row ≡ true
same_self row = and_true ((Decides-int_eq row.least row.least).1 refl) ((signed_items row.coefficients row.coefficients).1 refl)

or_right : (a b : Bool) → b ≡ true → (a || b) ≡ true
or_right true b e = refl
or_right false b e = e

or_left : (a b : Bool) → a ≡ true → (a || b) ≡ true
or_left true b e = refl
or_left false b e = absurd (cc)

-- a bound within the limits whose unit row stands among the rows
abbrev pub IsBound : ℕ → ℕ → ℤ → List Row → ℤ → Type 0
IsBound n x a whole z = (unsigned_abs z < 2 ^ 100) × (list_any (same_row (unit_row n x a z)) whole ≡ true)

all_bounds : (n x : ℕ) (a : ℤ) (whole rows : List Row) → All (FitsSystem n) rows → ((row : Row) → list_any (same_row row) rows ≡ true → list_any (same_row row) whole ≡ true) → All (IsBound n x a whole) (map (λ row. row.least) (filter (is_unit_row x a) rows))
all_bounds n x a whole [] h f = All-nil (IsBound n x a whole)
all_bounds n x a whole (row ∷ rows) h f =
    by_test (is_unit_row x a row) refl (All-head (FitsSystem n) row rows h) (f row (or_left (same_row row row) (list_any (same_row row) rows) (same_self row)))
    (all_bounds n x a whole rows (All-tail (FitsSystem n) row rows h) (λ r t. f r (or_right (same_row r row) (list_any (same_row r) rows) t)))
  where
    by_test : (b : Bool) → is_unit_row x a row ≡ b → FitsSystem n row → list_any (same_row row) whole ≡ true → All (IsBound n x a whole) (map (λ row. row.least) (filter (is_unit_row x a) rows)) → All (IsBound n x a whole) (map (λ row. row.least) (cond b (row ∷ filter (is_unit_row x a) rows) (filter (is_unit_row x a) rows)))
    by_test false e fits there rest = rest
    by_test true e fits there rest =
        All-cons (IsBound n x a whole) row.least (map (λ row. row.least) (filter (is_unit_row x a) rows))
        (fits.1.1, ap (λ (r : Row). list_any (same_row r) whole) (sym (unit_is n x a row fits.0 e)) ∙ there) rest

max_holds : (P : ℤ → Type 0) (z : ℤ) (zs : List ℤ) → P z → All P zs → P (fold int_max z zs)
max_holds P z [] p h = p
max_holds P z (y ∷ zs) p h = max_holds P (int_max z y) zs (one z y p (All-head P y zs h)) (All-tail P y zs h)
  where
    one : (a b : ℤ) → P a → P b → P (int_max a b)
    one a b p q = by_lt_z a b
        (λ l. subst P (let e : b ≡ int_max a b = grind (arith, ints, l) in e) q)
        (λ g. subst P (let e : a ≡ int_max a b = grind (arith, ints, g) in e) p)

same_some : {X : Type 0} (x y : X) → Some x ≡ Some y → x ≡ y
same_some x y e = cc

greatest_holds : (P : ℤ → Type 0) (zs : List ℤ) (z : ℤ) → All P zs → greatest_of zs ≡ Some z → P z
greatest_holds P [] z h e = absurd (cc)
greatest_holds P (y ∷ zs) z h e = subst P (same_some (fold int_max y zs) z e) (max_holds P y zs (All-head P y zs h) (All-tail P y zs h))

found : (n x : ℕ) (a : ℤ) (rows : List Row) → All (FitsSystem n) rows → list_any (is_unit_row x a) rows ≡ true → (z : ℤ) × (greatest_constant x a rows ≡ Some z) × IsBound n x a rows z
found n x a rows h t = by_case (greatest_constant x a rows) refl
  where
    by_case : (o : Option ℤ) → greatest_constant x a rows ≡ o → (z : ℤ) × (greatest_constant x a rows ≡ Some z) × IsBound n x a rows z
    by_case None e = absurd (no_unit x a rows t (sym e))
    by_case (Some z) e = (z, e, greatest_holds (IsBound n x a rows) (map (λ row. row.least) (filter (is_unit_row x a) rows)) z (all_bounds n x a rows rows h (λ row s. s)) e)

-- ---- the bounds of a variable where nothing clashes

false_left : (a b : Bool) → (a || b) ≡ false → a ≡ false
false_left true b e = absurd (cc)
false_left false b e = refl

false_right : (a b : Bool) → (a || b) ≡ false → b ≡ false
false_right true b e = absurd (cc)
false_right false b e = e

none_below : (test : ℕ → Bool) (n x : ℕ) → any_below test n ≡ false → x < n → test x ≡ false
none_below test zero x e h = absurd (omega arith)
none_below test (suc n) x e h = elim (cases_lt x n) [
  | inl l ↦ none_below test n x (false_right (test n) (any_below test n) e) l
  | inr g ↦ (let s : n ≡ x = omega (arith, g, h) in ap test (sym s) ∙ false_left (test n) (any_below test n) e)
]

pub record Between (n x : ℕ) (rows : List Row) : Type 0 where
  pub low : ℤ
  pub high : ℤ
  pub lower : greatest_lower x rows ≡ Some low
  pub upper : least_upper x rows ≡ Some high
  pub low_small : unsigned_abs low < 2 ^ 100
  pub high_small : unsigned_abs high < 2 ^ 100
  pub ordered : low ≤ℤ high
  pub there : list_any (same_row (at_most n x high)) rows ≡ true

pub between : (n x : ℕ) (rows : List Row) → IsWithinLimits n rows → HasUnitRows n rows → clashes n rows ≡ false → x < n → Between n x rows
between n x rows w h c l =
    let parts = both {a = list_any (is_unit_row x (pos 1)) rows} {b = list_any (is_unit_row x (negsuc 0)) rows} (h x l) in
    let lower = found n x (pos 1) rows w.1 parts.0 in
    let upper = found n x (negsuc 0) rows w.1 parts.1 in
    let top : least_upper x rows ≡ Some (neg_ℤ upper.0) = upper_is x rows ∙ ap (option_map neg_ℤ) upper.1 in
    let apart : bounds_clash x rows ≡ false = none_below (λ y. bounds_clash y rows) n x (false_right (list_any is_false rows) (any_below (λ y. bounds_clash y rows) n) c) l in
    let test : int_lt (neg_ℤ upper.0) lower.0 ≡ false = sym (ap (exceeds (Some lower.0)) top) ∙ sym (ap (λ (o : Option ℤ). exceeds o (least_upper x rows)) lower.1) ∙ apart in
    record {
      low = lower.0;
      high = neg_ℤ upper.0;
      lower = lower.1;
      upper = top;
      low_small = lower.2.0;
      high_small = (let s = upper.2.0 in omega (arith, ints, s));
      ordered = omega (arith, ints, test);
      there = ap (λ (z : ℤ). list_any (same_row (unit_row n x (negsuc 0) z)) rows) (let e : neg_ℤ (neg_ℤ upper.0) ≡ upper.0 = omega (arith, ints) in e) ∙ upper.2.1;
    }

pub middle_is : (n x : ℕ) (rows : List Row) (b : Between n x rows) → middle x rows ≡ b.low +ℤ int_div_euclid (b.high -ℤ b.low) (pos 2)
middle_is n x rows b = ap (λ (o : Option ℤ). middle_between o (least_upper x rows)) b.lower ∙ ap (middle_between (Some b.low)) b.upper

-- ---- the middle

halved : (d : ℕ) → (d / 2) * 2 ≤ d
halved d = omega arith

half_less : (d : ℕ) → 0 < d → d / 2 < d
half_less d h = omega (arith, h)

pub half_within : (low high : ℤ) → low ≤ℤ high → (low ≤ℤ (low +ℤ int_div_euclid (high -ℤ low) (pos 2))) × ((low +ℤ int_div_euclid (high -ℤ low) (pos 2)) ≤ℤ high)
half_within low high h = by_sign (high -ℤ low) refl
  where
    by_sign : (z : ℤ) → high -ℤ low ≡ z → (low ≤ℤ (low +ℤ int_div_euclid z (pos 2))) × ((low +ℤ int_div_euclid z (pos 2)) ≤ℤ high)
    by_sign (pos d) e = (omega (arith, ints), (let l = halved d in omega (arith, ints, e, l)))
    by_sign (negsuc d) e = absurd (omega (arith, ints, e, h))

pub half_below : (low high : ℤ) → low <ℤ high → (low +ℤ int_div_euclid (high -ℤ low) (pos 2)) <ℤ high
half_below low high h = by_sign (high -ℤ low) refl
  where
    by_sign : (z : ℤ) → high -ℤ low ≡ z → (low +ℤ int_div_euclid z (pos 2)) <ℤ high
    by_sign (pos d) e = (let p : 0 < d = omega (arith, ints, e, h) in let l = half_less d p in omega (arith, ints, e, l))
    by_sign (negsuc d) e = absurd (omega (arith, ints, e, h))

pub middle_small : (n x : ℕ) (rows : List Row) → Between n x rows → unsigned_abs (middle x rows) < 2 ^ 100
middle_small n x rows b =
    let w = half_within b.low b.high b.ordered in
    subst (λ (z : ℤ). unsigned_abs z < 2 ^ 100) (sym (middle_is n x rows b)) (omega (arith, ints, w.0, w.1, b.low_small, b.high_small))

there_stays : (rows : List Row) (row : Row) → list_any (same_row row) rows ≡ true → joined_one rows row ≡ rows
there_stays rows row t = ap (λ (b : Bool). cond b rows (rows ++ row ∷ [])) (or_right (is_true row) (list_any (same_row row) rows) t)

-- the upper half is within the limits, or the lower half is the node itself
pub upper_within : (node : Node) (x : ℕ) → Between node.variables x node.rows → x < node.variables → (unsigned_abs (middle x node.rows +ℤ pos 1) < 2 ^ 100) ⊎ (with_row node (at_most node.variables x (middle x node.rows)) ≡ node)
upper_within node x b l = by_lt_z b.low b.high
    (λ below. inl (let m = middle_is node.variables x node.rows b in let h = half_below b.low b.high below in let w = half_within b.low b.high b.ordered in
    subst (λ (z : ℤ). unsigned_abs (z +ℤ pos 1) < 2 ^ 100) (sym m) (omega (arith, ints, h, w.0, b.low_small, b.high_small))))
    (λ above.
    let w = half_within b.low b.high b.ordered in
    let m : middle x node.rows ≡ b.high = middle_is node.variables x node.rows b ∙ (let e : b.low +ℤ int_div_euclid (b.high -ℤ b.low) (pos 2) ≡ b.high = omega (arith, ints, w.0, w.1, above) in e) in
    let r : joined node.rows (at_most node.variables x b.high ∷ []) ≡ node.rows = ap (joined_one node.rows) (upper_tight node.variables x b.high l) ∙ there_stays node.rows (at_most node.variables x b.high) b.there in
    inr (ap (λ (z : ℤ). with_row node (at_most node.variables x z)) m ∙ ap (λ (rs : List Row). let k : Node = record { variables = node.variables; rows = rs; either = node.either } in k) r))

-- ---- the narrowest variable is one of the variables

narrowest_most : (n : ℕ) (rows : List Row) → narrowest n rows ≤ n
narrowest_most zero rows = omega arith
narrowest_most (suc n) rows = by_test (is_narrower rows n (narrowest n rows)) (narrowest_most n rows)
  where
    by_test : (b : Bool) → narrowest n rows ≤ n → cond b n (narrowest n rows) ≤ suc n
    by_test true l = omega arith
    by_test false l = omega (arith, l)

pub narrowest_below : (n : ℕ) (rows : List Row) → 0 < n → narrowest n rows < n
narrowest_below zero rows h = absurd (omega (arith, h))
narrowest_below (suc n) rows h = by_test (is_narrower rows n (narrowest n rows)) (narrowest_most n rows)
  where
    by_test : (b : Bool) → narrowest n rows ≤ n → cond b n (narrowest n rows) < suc n
    by_test true l = omega arith
    by_test false l = omega (arith, l)

plain_zero : (cs : List ℤ) → length cs ≡ 0 → list_all (λ c. int_eq c (pos 0)) cs ≡ true
plain_zero [] e = refl
plain_zero (c ∷ cs) e = absurd (omega (arith, e))

all_plain : (rows : List Row) → All (FitsSystem 0) rows → list_all has_no_variable rows ≡ true
all_plain [] h = refl
all_plain (row ∷ rows) h = and_true (plain_zero row.coefficients (All-head (FitsSystem 0) row rows h).0) (all_plain rows (All-tail (FitsSystem 0) row rows h))

-- rows without variables are decided, so where they are not there is a variable
pub some_variable : (n : ℕ) (rows : List Row) → IsWithinLimits n rows → clashes n rows ≡ false → outcome n rows ≡ Neither → 0 < n
some_variable zero rows w c o = absurd (apart (sym (outcome_true 0 0 rows c (all_plain rows w.1)) ∙ o))
  where
    apart : TrueRows ≡ Neither → ⊥
    apart e = cc
some_variable (suc n) rows w c o = omega arith
