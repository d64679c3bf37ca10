-- The formulas of goals fit a system.
use Rattle.std.proofs.Common.{◌≡◌, refl, ◌∙◌, ℕ, zero, suc, ◌+◌, ◌-◌, ◌<◌, ◌^◌, arith, List, [], ◌∷◌, ◌++◌, map, take, length, true, ℤ, pos, negsuc, neg_ℤ, ◌*ℤ◌, ◌+ℤ◌, unsigned_abs}
use Rattle.std.proofs.lemmas.Int.{ints}
use Rattle.std.specs.Int.{int_div_euclid}
use Rattle.std.specs.List.{list_all, AllByRecursion}
use Rattle.std.proofs.lemmas.List.Folds.{list_all-append}
use Rattle.rx_linear.proofs.Joining.{and_true}
use Rattle.rx_types.specs.declared.interval.Interval.{Interval}
use Rattle.rx_types.specs.Narrow.{IsShort}
use Rattle.rx_forms.specs.declared.linear.Linear.{Linear}
use Rattle.rx_forms.specs.declared.linear.Form.{Form, AtLeast, All, Any}
use Rattle.rx_forms.specs.Linear.{constant, term, minus, less_one, above, unequal}
use Rattle.rx_forms.specs.Normal.{Formed}
use Rattle.rx_forms.specs.Steps.{end_form}
use Rattle.rx_layout.specs.Fitting.{fits, fits_row}
use Rattle.rx_layout.specs.QueryOf.{position_formula, grid_formula, cover_formula, before_last, null_formula, no_multiple, unit_rows}
use Rattle.rx_layout.proofs.Gathered.{fits_at_least, fits_all, fits_any}
use Rattle.rx_layout.proofs.Stepping.{term_length}
use Rattle.rx_layout.proofs.Bounds.{weighted_width, less_term_under, fits_by, IsLowTo, above_fits}
use Rattle.rx_layout.proofs.Widths.{AreLowTo}
use Rattle.rx_layout.proofs.RowsFit.{term_fits, divided_small, upper_fits}
use Rattle.rx_layout.proofs.FrontsFit.{wider, zero_low, end_low}

is_above : (n : ℕ) (f g : Linear) → IsLowTo n f → IsLowTo n g → fits n (above f g) ≡ true
is_above n f g l k = fits_at_least n (less_one (minus f g)) ∙ above_fits n f g l k

either : (n : ℕ) (f g : Form) → fits n f ≡ true → fits n g ≡ true → fits n (Any (f ∷ g ∷ [])) ≡ true
either n f g h e = fits_any n (f ∷ g ∷ []) ∙ and_true h (and_true e refl)

pub unequal_fits : (n : ℕ) (f g : Linear) → IsLowTo n f → IsLowTo n g → fits n (unequal f g) ≡ true
unequal_fits n f g l k = either n (above g f) (above f g) (is_above n g f k l) (is_above n f g l k)

pub position_fits : (n : ℕ) (first size : Linear) → IsLowTo n first → IsLowTo n size → fits n (position_formula first size) ≡ true
position_fits n first size l k = either n (above (constant (pos 0)) first) (above (constant (pos 0)) size) (is_above n (constant (pos 0)) first (zero_low n) l) (is_above n (constant (pos 0)) size (zero_low n) k)

least_fits : (n q : ℕ) (f : Linear) → IsLowTo q f → q < n → fits_row n (minus f (term (pos 8) q (pos 1))) ≡ true
least_fits n q f l h =
    let w = term_length q (pos 8) in
    let s = l.short in
    fits_by n (minus f (term (pos 8) q (pos 1))) (weighted_width f.coefficients (term (pos 8) q (pos 1)).coefficients (pos 1) (negsuc 0) n (omega (arith, s, h)) (omega (arith, w, h)))
    (less_term_under f.coefficients q (pos 8) l.short l.low (omega (arith, ints)))
    (small f.constant l.constant)
  where
    small : (c : ℤ) → unsigned_abs c < 2 ^ 98 → unsigned_abs (pos 1 *ℤ c +ℤ negsuc 0 *ℤ pos 1) < 2 ^ 100
    small c h = omega (arith, ints, h)

pub no_multiple_fits : (n q : ℕ) (f : Linear) → IsLowTo q f → q < n → fits n (no_multiple f q) ≡ true
no_multiple_fits n q f l h =
    fits_all n (AtLeast (minus f (term (pos 8) q (pos 1))) ∷ AtLeast (minus (term (pos 8) q (pos 7)) f) ∷ [])
    ∙ and_true (fits_at_least n (minus f (term (pos 8) q (pos 1))) ∙ least_fits n q f l h)
    (and_true (fits_at_least n (minus (term (pos 8) q (pos 7)) f) ∙ upper_fits n q f (pos 8) l h (omega (arith, ints)) (omega (arith, ints))) refl)

pub grid_fits : (n q : ℕ) (first size : Linear) → IsLowTo q first → IsLowTo q size → q + 1 < n → fits n (grid_formula first size q) ≡ true
grid_fits n q first size l k h = either n (no_multiple first q) (no_multiple size (q + 1)) (no_multiple_fits n q first l (omega (arith, h))) (no_multiple_fits n (q + 1) size (wider q (q + 1) size (omega arith) k) h)

each_after : (n : ℕ) (fields : List Formed) (place : Linear) → AllByRecursion (λ g. AreLowTo n g) fields → IsLowTo n place → list_all (fits n) (map (λ f. above f.end place) fields) ≡ true
each_after n [] place h l = refl
each_after n (g ∷ gs) place h l = and_true (is_above n g.end place h.0.end l) (each_after n gs place h.1 l)

each_before : (n : ℕ) (fields : List Formed) (place : Linear) → AllByRecursion (λ g. AreLowTo n g) fields → IsLowTo n place → list_all (fits n) (map (λ f. above place f.end) fields) ≡ true
each_before n [] place h l = refl
each_before n (g ∷ gs) place h l = and_true (is_above n place g.end l h.0.end) (each_before n gs place h.1 l)

pub cover_fits : (n : ℕ) (fields : List Formed) (first : Linear) → AllByRecursion (λ g. AreLowTo n g) fields → IsLowTo n first → fits n (cover_formula fields first) ≡ true
cover_fits n [] first h l = unequal_fits n first (constant (pos 0)) l (zero_low n)
cover_fits n (g ∷ gs) first h l =
    let after = map (λ (f : Formed). above f.end first) (g ∷ gs) in
    let before = map (λ (f : Formed). above first f.end) (g ∷ gs) in
    fits_any n (after ++ All before ∷ []) ∙ list_all-append (fits n) after (All before ∷ [])
    ∙ and_true (each_after n (g ∷ gs) first h l) (and_true (fits_all n before ∙ each_before n (g ∷ gs) first h l) refl)

first_low : (n k : ℕ) (fields : List Formed) → AllByRecursion (λ g. AreLowTo n g) fields → AllByRecursion (λ g. AreLowTo n g) (take k fields)
first_low n zero fields h = tt
first_low n (suc k) [] h = tt
first_low n (suc k) (g ∷ gs) h = (h.0, first_low n k gs h.1)

pub null_fits : (n : ℕ) (fields : List Formed) → AllByRecursion (λ g. AreLowTo n g) fields → fits n (null_formula fields) ≡ true
null_fits n fields h =
    fits_any n (map (λ f. above f.end (end_form fields)) (before_last fields))
    ∙ each_after n (before_last fields) (end_form fields) (first_low n (length fields - 1) fields h) (end_low n fields h)

pub units_fit : (n q : ℕ) (i : Interval) → q < n → IsShort i → list_all (fits_row n) (unit_rows q i) ≡ true
units_fit n q i h s =
    let low = divided_small i.low (pos 8) (omega (arith, ints)) (omega (arith, ints, s.low_above, s.low_below)) in
    let high = divided_small i.high (pos 8) (omega (arith, ints)) (omega (arith, ints, s.high_above, s.high_below)) in
    and_true (term_fits n q (pos 1) (neg_ℤ (int_div_euclid i.low (pos 8))) h (omega (arith, ints)) (negated (int_div_euclid i.low (pos 8)) low))
    (and_true (term_fits n q (negsuc 0) (int_div_euclid i.high (pos 8)) h (omega (arith, ints)) high) refl)
  where
    negated : (z : ℤ) → unsigned_abs z < 2 ^ 100 → unsigned_abs (neg_ℤ z) < 2 ^ 100
    negated z h = omega (arith, ints, h)
