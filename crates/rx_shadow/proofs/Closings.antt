-- Steps that close, and the rows that bound a variable.
use Rattle.std.proofs.Common.{◌≡◌, refl, sym, ap, ◌∙◌, ℕ, zero, suc, ◌<◌, arith, List, [], ◌∷◌, map, length, replicate, Bool, true, false, cond, ℤ, pos, negsuc, neg_ℤ, ◌+ℤ◌, ◌*ℤ◌, ◌≤ℤ◌, ◌<ℤ◌, int_lt, Some, option_map}
use Rattle.std.specs.List.{Contains, list_all, filter, fold}
use Rattle.std.specs.Int.{int_max, int_min}
use Rattle.std.specs.Ordering.{int_eq}
use Rattle.std.specs.Cmp.Lexicographic.{pointwise}
use Rattle.std.specs.Cmp.Rules.{signed_items}
use Rattle.std.proofs.lemmas.Int.{ints, by_lt_z}
use Rattle.std.proofs.lemmas.List.Elements.{All-contains}
use Rattle.std.proofs.lemmas.Bool.Decides.{Decides-int_eq}
use Rattle.std.proofs.Math.IntN.{*ℤ-zero}
use Rattle.rx_model.specs.Sums.{weighted_sum}
use Rattle.rx_model.proofs.Ring.{times_le}
use Rattle.rx_linear.specs.declared.row.Row.{Row}
use Rattle.rx_linear.specs.declared.step.Step.TheVariants.{Combine, Tighten}
use Rattle.rx_linear.specs.Divisors.{divided_up, divided_down}
use Rattle.rx_linear.specs.Rows.{IsMultiplier, combined, tight, divisor_of}
use Rattle.rx_linear.specs.Systems.{FitsSystem}
use Rattle.rx_linear.specs.Joining.{has_no_variable, is_false}
use Rattle.rx_linear.specs.Units.{coefficient, unit, unit_row, is_unit_row}
use Rattle.rx_linear.proofs.Divisors.{divided_up_enough}
use Rattle.rx_linear.proofs.Joining.{both, and_true}
use Rattle.rx_shadow.specs.declared.known.Known.{Known}
use Rattle.rx_shadow.specs.Bounds.{greatest_of, least_of, least_upper}
use Rattle.rx_shadow.specs.Derivations.{row_after, IsClosing}
use Rattle.rx_shadow.proofs.Derivations.{tighten_given, combine_given}
use Rattle.rx_shadow.proofs.Greatest.{greatest_constant}
use Rattle.rx_shadow.proofs.Points.{down_zero}

-- ---- a false row stays false when it is made tight

lt_test : (a b : ℤ) → a <ℤ b → int_lt a b ≡ true
lt_test a b h = grind (arith, ints, h)

pub up_positive : (z : ℤ) (d : ℕ) → 0 < d → pos 0 <ℤ z → pos 0 <ℤ divided_up z d
up_positive z d p h =
    by_lt_z (pos 0) (divided_up z d) (λ l. l)
    (λ g.
    let e = divided_up_enough z d p in
    let t = times_le (pos d) (divided_up z d) (pos 0) (omega (arith, ints)) g in
    absurd (omega (arith, ints, e, t, h, *ℤ-zero (pos d))))

zeros_divided : (cs : List ℤ) (d : ℕ) → list_all (λ c. int_eq c (pos 0)) cs ≡ true → list_all (λ c. int_eq c (pos 0)) (map (λ c. divided_down c d) cs) ≡ true
zeros_divided [] d h = refl
zeros_divided (c ∷ cs) d h =
    let parts = both {a = int_eq c (pos 0)} {b = list_all (λ z. int_eq z (pos 0)) cs} h in
    let z : c ≡ pos 0 = (Decides-int_eq c (pos 0)).0 parts.0 in
    and_true ((Decides-int_eq (divided_down c d) (pos 0)).1 (ap (λ (y : ℤ). divided_down y d) z ∙ down_zero d)) (zeros_divided cs d parts.1)

pub false_tight : (row : Row) → is_false row ≡ true → is_false (tight row) ≡ true
false_tight row h =
    let parts = both {a = has_no_variable row} {b = int_lt (pos 0) row.least} h in
    and_true (zeros_divided row.coefficients (divisor_of row) parts.0)
    (lt_test (pos 0) (divided_up row.least (divisor_of row)) (up_positive row.least (divisor_of row) (omega arith) (let l : pos 0 <ℤ row.least = omega (arith, ints, parts.1) in l)))

pub closing_tighten : (known : List Known) (k : Known) → Contains known k → is_false k.row ≡ true → IsClosing known (Tighten k.number)
closing_tighten known k c f given count steps d =
    (tight k.row, tighten_given given count steps known k.number k.row d (All-contains (λ j. row_after given steps j.number ≡ Some j.row) known k d.each c), false_tight k.row f)

-- ---- unit rows

two : (row : Row) (cs : List ℤ) → row.coefficients ≡ cs → row ≡ record { coefficients = cs; least = row.least }
two row cs e = ap (λ (zs : List ℤ). let r : Row = record { coefficients = zs; least = row.least } in r) e

pub unit_is : (n x : ℕ) (a : ℤ) (row : Row) → length row.coefficients ≡ n → is_unit_row x a row ≡ true → row ≡ unit_row n x a row.least
unit_is n x a row e t =
    let parts = both {a = int_eq (coefficient x row) a} {b = pointwise int_eq row.coefficients (unit (length row.coefficients) x a)} t in
    two row (unit n x a) ((signed_items row.coefficients (unit (length row.coefficients) x a)).0 parts.1 ∙ ap (λ (m : ℕ). unit m x a) e)

zeros_cancel : (n : ℕ) → list_all (λ c. int_eq c (pos 0)) (weighted_sum (replicate n (pos 0)) (pos 1) (replicate n (pos 0)) (pos 1)) ≡ true
zeros_cancel zero = refl
zeros_cancel (suc n) = zeros_cancel n

units_cancel : (n x : ℕ) → list_all (λ c. int_eq c (pos 0)) (weighted_sum (unit n x (pos 1)) (pos 1) (unit n x (negsuc 0)) (pos 1)) ≡ true
units_cancel zero x = refl
units_cancel (suc n) zero = zeros_cancel n
units_cancel (suc n) (suc x) = units_cancel n x

one_multiplier : IsMultiplier (pos 1)
one_multiplier = (omega (arith, ints), omega arith)

pub closing_bounds : (n x : ℕ) (known : List Known) (low high : Known) → Contains known low → Contains known high → FitsSystem n low.row → FitsSystem n high.row → is_unit_row x (pos 1) low.row ≡ true → is_unit_row x (negsuc 0) high.row ≡ true → int_lt (neg_ℤ high.row.least) low.row.least ≡ true → IsClosing known (Combine low.number (pos 1) high.number (pos 1))
closing_bounds n x known low high cl ch fl fh ul uh t given count steps d = (
  combined low.row (pos 1) high.row (pos 1),
  combine_given given count steps known low high (pos 1) (pos 1) d cl ch fl.1 fh.1 one_multiplier one_multiplier,
  and_true
      (ap (λ (row : Row). has_no_variable (combined row (pos 1) high.row (pos 1))) (unit_is n x (pos 1) low.row fl.0 ul)
      ∙ ap (λ (row : Row). has_no_variable (combined (unit_row n x (pos 1) low.row.least) (pos 1) row (pos 1))) (unit_is n x (negsuc 0) high.row fh.0 uh)
      ∙ units_cancel n x)
      (lt_test (pos 0) (pos 1 *ℤ low.row.least +ℤ pos 1 *ℤ high.row.least) (omega (arith, ints, t))),
)

-- ---- the least upper bound, from the greatest constant

min_negated : (a b : ℤ) → int_min (neg_ℤ a) (neg_ℤ b) ≡ neg_ℤ (int_max a b)
min_negated a b = by_lt_z a b
    (λ l. ap (λ (t : Bool). cond t (neg_ℤ b) (neg_ℤ a)) (lt_test (neg_ℤ b) (neg_ℤ a) (omega (arith, ints, l))) ∙ ap (λ (t : Bool). neg_ℤ (cond t a b)) (sym (not_lt b a (omega (arith, ints, l)))))
    (λ g. by_lt_z b a
    (λ l. ap (λ (t : Bool). cond t (neg_ℤ b) (neg_ℤ a)) (not_lt (neg_ℤ b) (neg_ℤ a) (omega (arith, ints, l))) ∙ ap (λ (t : Bool). neg_ℤ (cond t a b)) (sym (lt_test b a l)))
    (λ h. same a b (let e : a ≡ b = omega (arith, ints, g, h) in e)))
  where
    not_lt : (p q : ℤ) → q ≤ℤ p → int_lt p q ≡ false
    not_lt p q h = grind (arith, ints, h)

    same : (a b : ℤ) → a ≡ b → int_min (neg_ℤ a) (neg_ℤ b) ≡ neg_ℤ (int_max a b)
    same a b e = ap (λ (z : ℤ). int_min (neg_ℤ a) (neg_ℤ z)) (sym e) ∙ alike (int_lt (neg_ℤ a) (neg_ℤ a)) (int_lt a a) ∙ ap (λ (z : ℤ). neg_ℤ (int_max a z)) e
      where
        alike : (s t : Bool) → cond s (neg_ℤ a) (neg_ℤ a) ≡ neg_ℤ (cond t a a)
        alike true true = refl
        alike true false = refl
        alike false true = refl
        alike false false = refl

fold_negated : (z : ℤ) (zs : List ℤ) → fold int_min (neg_ℤ z) (map neg_ℤ zs) ≡ neg_ℤ (fold int_max z zs)
fold_negated z [] = refl
fold_negated z (y ∷ zs) = ap (λ (a : ℤ). fold int_min a (map neg_ℤ zs)) (min_negated z y) ∙ fold_negated (int_max z y) zs

least_negated : (zs : List ℤ) → least_of (map neg_ℤ zs) ≡ option_map neg_ℤ (greatest_of zs)
least_negated [] = refl
least_negated (z ∷ zs) = ap (λ (y : ℤ). Some y) (fold_negated z zs)

map_twice : (rows : List Row) → map (λ (row : Row). neg_ℤ row.least) rows ≡ map neg_ℤ (map (λ (row : Row). row.least) rows)
map_twice [] = refl
map_twice (row ∷ rows) = ap (λ (zs : List ℤ). neg_ℤ row.least ∷ zs) (map_twice rows)

pub upper_is : (x : ℕ) (rows : List Row) → least_upper x rows ≡ option_map neg_ℤ (greatest_constant x (negsuc 0) rows)
upper_is x rows = ap least_of (map_twice (filter (is_unit_row x (negsuc 0)) rows)) ∙ least_negated (map (λ (row : Row). row.least) (filter (is_unit_row x (negsuc 0)) rows))
