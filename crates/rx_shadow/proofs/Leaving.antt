-- The rows that leave with a variable decide what stands in their place.
use Rattle.std.proofs.Common.{◌≡◌, refl, ap, ◌∙◌, ℕ, List, [], ◌∷◌, map, Bool, true, false, cond, not, ℤ, pos, negsuc, neg_ℤ, int_lt, Option, Some, None, arith, length}
use Rattle.std.specs.List.{filter, flat_map}
use Rattle.std.specs.Ordering.{int_eq}
use Rattle.std.specs.Cmp.Lexicographic.{pointwise}
use Rattle.std.proofs.lemmas.Int.{ints}
use Rattle.std.proofs.lemmas.Bool.Decides.{Decides-int_eq}
use Rattle.rx_linear.specs.declared.row.Row.{Row}
use Rattle.rx_linear.specs.Units.{coefficient, unit, is_unit_row}
use Rattle.rx_linear.proofs.Joining.{both}
use Rattle.rx_shadow.specs.declared.known.Known.{Known}
use Rattle.rx_shadow.specs.Bounds.{lower_bounds, upper_bounds, fixed_value, common_value, greatest_of, least_of}
use Rattle.rx_shadow.specs.Simple.{has, positives, negatives, paired, pairs, at_value, replaced}
use Rattle.rx_shadow.specs.Known.{rows_of}

pub rows_of_filter : (p : Row → Bool) (known : List Known) → rows_of (filter (λ k. p k.row) known) ≡ filter p (rows_of known)
rows_of_filter p [] = refl
rows_of_filter p (k ∷ known) = by_test (p k.row) (rows_of_filter p known)
  where
    by_test : (b : Bool) → rows_of (filter (λ j. p j.row) known) ≡ filter p (rows_of known) → rows_of (cond b (k ∷ filter (λ j. p j.row) known) (filter (λ j. p j.row) known)) ≡ cond b (k.row ∷ filter p (rows_of known)) (filter p (rows_of known))
    by_test true e = ap (λ (rows : List Row). k.row ∷ rows) e
    by_test false e = e

pub filter_twice : (p q : Row → Bool) → ((row : Row) → p row ≡ true → q row ≡ true) → (rows : List Row) → filter p (filter q rows) ≡ filter p rows
filter_twice p q f [] = refl
filter_twice p q f (row ∷ rows) = by_tests (q row) (p row) refl refl (filter_twice p q f rows)
  where
    by_tests : (b c : Bool) → q row ≡ b → p row ≡ c → filter p (filter q rows) ≡ filter p rows → filter p (cond b (row ∷ filter q rows) (filter q rows)) ≡ cond c (row ∷ filter p rows) (filter p rows)
    by_tests true c eq ep e = ap (λ (t : Bool). cond t (row ∷ filter p (filter q rows)) (filter p (filter q rows))) ep ∙ ap (λ (rs : List Row). cond c (row ∷ rs) rs) e
    by_tests false true eq ep e = absurd (let t = f row ep in cc)
    by_tests false false eq ep e = e

pub has_other : (x : ℕ) (row : Row) → (coefficient x row ≡ pos 0 → ⊥) → has x row ≡ true
has_other x row ne = by_test (int_eq (coefficient x row) (pos 0)) refl
  where
    by_test : (b : Bool) → int_eq (coefficient x row) (pos 0) ≡ b → not b ≡ true
    by_test true e = absurd (ne ((Decides-int_eq (coefficient x row) (pos 0)).0 e))
    by_test false e = refl

pub positive_has : (x : ℕ) (row : Row) → int_lt (pos 0) (coefficient x row) ≡ true → has x row ≡ true
positive_has x row t = has_other x row (λ e. absurd (omega (arith, ints, t, e)))

pub negative_has : (x : ℕ) (row : Row) → int_lt (coefficient x row) (pos 0) ≡ true → has x row ≡ true
negative_has x row t = has_other x row (λ e. absurd (omega (arith, ints, t, e)))

unit_coefficient : (x : ℕ) (a : ℤ) (row : Row) → is_unit_row x a row ≡ true → coefficient x row ≡ a
unit_coefficient x a row t =
    (Decides-int_eq (coefficient x row) a).0 (both {a = int_eq (coefficient x row) a} {b = pointwise int_eq row.coefficients (unit (length row.coefficients) x a)} t).0

pub lower_has : (x : ℕ) (row : Row) → is_unit_row x (pos 1) row ≡ true → has x row ≡ true
lower_has x row t = has_other x row (λ e. absurd (let u = unit_coefficient x (pos 1) row t in omega (arith, ints, u, e)))

pub upper_has : (x : ℕ) (row : Row) → is_unit_row x (negsuc 0) row ≡ true → has x row ≡ true
upper_has x row t = has_other x row (λ e. absurd (let u = unit_coefficient x (negsuc 0) row t in omega (arith, ints, u, e)))

fixed_leaving : (x : ℕ) (rows : List Row) → fixed_value x (filter (has x) rows) ≡ fixed_value x rows
fixed_leaving x rows =
    ap (λ (rs : List Row). common_value (greatest_of (map (λ row. row.least) rs)) (least_of (upper_bounds x (filter (has x) rows)))) (filter_twice (is_unit_row x (pos 1)) (has x) (lower_has x) rows)
    ∙ ap (λ (rs : List Row). common_value (greatest_of (lower_bounds x rows)) (least_of (map (λ row. neg_ℤ row.least) rs))) (filter_twice (is_unit_row x (negsuc 0)) (has x) (upper_has x) rows)

pairs_leaving : (x : ℕ) (rows : List Row) → pairs x (filter (has x) rows) ≡ pairs x rows
pairs_leaving x rows =
    ap (λ (rs : List Row). flat_map (λ first. map (paired x first) (negatives x (filter (has x) rows))) rs) (filter_twice (λ row. int_lt (pos 0) (coefficient x row)) (has x) (positive_has x) rows)
    ∙ ap (λ (rs : List Row). flat_map (λ first. map (paired x first) rs) (positives x rows)) (filter_twice (λ row. int_lt (coefficient x row) (pos 0)) (has x) (negative_has x) rows)

pub has_leaving : (x : ℕ) (rows : List Row) → filter (has x) (filter (has x) rows) ≡ filter (has x) rows
has_leaving x rows = filter_twice (has x) (has x) (λ row t. t) rows

pub replaced_leaving : (n x : ℕ) (rows : List Row) → replaced n x (filter (has x) rows) (fixed_value x (filter (has x) rows)) ≡ replaced n x rows (fixed_value x rows)
replaced_leaving n x rows = ap (replaced n x (filter (has x) rows)) (fixed_leaving x rows) ∙ by_value (fixed_value x rows)
  where
    by_value : (o : Option ℤ) → replaced n x (filter (has x) rows) o ≡ replaced n x rows o
    by_value None = pairs_leaving x rows
    by_value (Some v) = ap (map (at_value n x v)) (has_leaving x rows)
