-- The rows of divisions that stay within the path limit may be the rows of a system.
use Rattle.std.proofs.Common.{◌≡◌, refl, sym, ap, ◌∙◌, ℕ, zero, suc, ◌+◌, ◌<◌, ◌≤◌, ◌^◌, arith, List, [], ◌∷◌, ◌++◌, replicate, Bool, true, false, if◌then◌else◌, ℤ, pos, negsuc, neg_ℤ, ◌-ℤ◌, ◌+ℤ◌, ◌*ℤ◌, ◌<ℤ◌, unsigned_abs, Option, Some, None}
use Rattle.std.proofs.lemmas.Int.{ints}
use native.Mathlib.Nat.{div-le_self}
use Rattle.std.specs.Int.{int_div_euclid}
use Rattle.std.specs.List.{list_all}
use Rattle.std.proofs.lemmas.List.Folds.{list_all-append}
use Rattle.rx_linear.proofs.Joining.{both, and_true}
use Rattle.rx_types.specs.declared.interval.Interval.{Interval}
use Rattle.rx_types.specs.declared.expr.Operator.TheVariants as op
use Rattle.rx_types.specs.Tree.{Tree, Number, Truth, Field, First, Last, Size, Total, Neg, Not, Binary}
use Rattle.rx_types.specs.Static.{is_static, static_value, nothing}
use Rattle.rx_types.specs.Narrow.{IsShort, IsDivisor, IsNarrow, interval_of}
use Rattle.rx_types.proofs.Within.{value_in}
use Rattle.rx_forms.proofs.Intervals.{nothing_stays, divisor_positive}
use Rattle.rx_forms.specs.declared.linear.Linear.{Linear}
use Rattle.rx_forms.specs.Linear.{term, minus}
use Rattle.rx_forms.specs.Normal.{Formed, formed_of, linear, divisions_in, truth_in}
use Rattle.rx_forms.specs.Divisions.{division_rows, divisions}
use Rattle.rx_forms.specs.Limits.{Met, Part, is_kept, all_kept, is_low, met, of_sides, differences, divided}
use Rattle.rx_layout.specs.Fitting.{fits_row}
use Rattle.rx_layout.proofs.Stepping.{term_length}
use Rattle.rx_layout.proofs.Bounds.{Under, is_below, IsLowTo, low_to, fits_by, weighted_width, less_term_under, term_less_under}
use Rattle.rx_layout.proofs.Widths.{AreLowTo, short_linear}

-- ---- rows of one variable

unit_under : (q : ℕ) (k : ℤ) → unsigned_abs k < 2 ^ 20 → Under (2 ^ 20) (replicate q (pos 0) ++ k ∷ [])
unit_under zero k h = and_true (is_below (unsigned_abs k) (2 ^ 20) h) refl
unit_under (suc q) k h = and_true refl (unit_under q k h)

pub term_fits : (n q : ℕ) (k c : ℤ) → q < n → unsigned_abs k < 2 ^ 20 → unsigned_abs c < 2 ^ 100 → fits_row n (term k q c) ≡ true
term_fits n q k c h b e = let w = term_length q k in fits_by n (term k q c) (omega (arith, w, h)) (unit_under q k b) e

quotient_small : (z : ℤ) (k : ℕ) → unsigned_abs z < 2 ^ 100 → unsigned_abs (int_div_euclid z (pos (suc k))) < 2 ^ 100
quotient_small (pos a) k h = let p = div-le_self a (suc k) in omega (arith, ints, p, h)
quotient_small (negsuc a) k h = let p = div-le_self a (suc k) in omega (arith, ints, p, h)

pub divided_small : (z k : ℤ) → pos 0 <ℤ k → unsigned_abs z < 2 ^ 100 → unsigned_abs (int_div_euclid z k) < 2 ^ 100
divided_small z (pos zero) p h = absurd p.lt
divided_small z (pos (suc k)) p h = quotient_small z k h
divided_small z (negsuc k) p h = absurd p.lt

-- ---- rows of a division

module _ (n q : ℕ) (f : Linear) (k : ℤ) (l : IsLowTo q f) (h : q < n) (p : pos 0 <ℤ k) (b : k <ℤ pos (2 ^ 20)) where
  pub lower_fits : fits_row n (minus f (term k q (pos 0))) ≡ true
  lower_fits =
      let w = term_length q k in
      let s = l.short in
      fits_by n (minus f (term k q (pos 0))) (weighted_width f.coefficients (term k q (pos 0)).coefficients (pos 1) (negsuc 0) n (omega (arith, s, h)) (omega (arith, w, h)))
      (less_term_under f.coefficients q k l.short l.low (omega (arith, ints, p, b)))
      (small f.constant l.constant)
    where
      small : (c : ℤ) → unsigned_abs c < 2 ^ 98 → unsigned_abs (pos 1 *ℤ c +ℤ negsuc 0 *ℤ pos 0) < 2 ^ 100
      small c h = omega (arith, ints, h)

  pub upper_fits : fits_row n (minus (term k q (k -ℤ pos 1)) f) ≡ true
  upper_fits =
      let w = term_length q k in
      let s = l.short in
      fits_by n (minus (term k q (k -ℤ pos 1)) f) (weighted_width (term k q (k -ℤ pos 1)).coefficients f.coefficients (pos 1) (negsuc 0) n (omega (arith, w, h)) (omega (arith, s, h)))
      (term_less_under f.coefficients q k l.short l.low (omega (arith, ints, p, b)))
      (small k f.constant p b l.constant)
    where
      small : (k c : ℤ) → pos 0 <ℤ k → k <ℤ pos (2 ^ 20) → unsigned_abs c < 2 ^ 98 → unsigned_abs (pos 1 *ℤ (k -ℤ pos 1) +ℤ negsuc 0 *ℤ c) < 2 ^ 100
      small k c p b h = omega (arith, ints, p, b, h)

  pub division_fits : (i : Interval) → IsShort i → list_all (fits_row n) (division_rows q f k i) ≡ true
  division_fits i s =
      let low = divided_small i.low k p (omega (arith, ints, s.low_above, s.low_below)) in
      let high = divided_small i.high k p (omega (arith, ints, s.high_above, s.high_below)) in
      and_true lower_fits (and_true upper_fits (and_true (term_fits n q (pos 1) (neg_ℤ (int_div_euclid i.low k)) h (omega (arith, ints)) (negated (int_div_euclid i.low k) low))
      (and_true (term_fits n q (negsuc 0) (int_div_euclid i.high k) h (omega (arith, ints)) high) refl)))
    where
      negated : (z : ℤ) → unsigned_abs z < 2 ^ 100 → unsigned_abs (neg_ℤ z) < 2 ^ 100
      negated z h = omega (arith, ints, h)

-- ---- expressions

short_of : (limit : ℕ → ℕ) (x : Tree) → IsNarrow limit x → IsShort (interval_of limit x)
short_of limit (Number k) h = h
short_of limit (Truth b) h = h
short_of limit (Field f) h = h
short_of limit (First f) h = h
short_of limit (Last f) h = h
short_of limit (Size f) h = h
short_of limit Total h = h
short_of limit (Neg a) h = h.0
short_of limit (Not a) h = h.0
short_of limit (Binary o a b) h = h.0

divisor_below : (limit : ℕ → ℕ) (x : Tree) → IsNarrow limit x → IsDivisor (interval_of limit x) → static_value x <ℤ pos (2 ^ 20)
divisor_below limit x h d = let i = value_in limit nothing (nothing_stays limit) x h in omega (arith, ints, i.below, d.single, d.below)

module _ (limit : ℕ → ℕ) (fields : List Formed) (d : ℕ) (low : (f : ℕ) → AreLowTo d (formed_of f fields)) (N : ℕ) where
  abbrev RowsFit : List Linear → Type 0
  RowsFit rows = list_all (fits_row N) rows ≡ true

  split : (xs ys : List Met) → all_kept (xs ++ ys) ≡ true → (all_kept xs ≡ true) × (all_kept ys ≡ true)
  split xs ys h = both {a = all_kept xs} {b = all_kept ys} (sym (list_all-append is_kept xs ys) ∙ h)

  join : (xs ys : List Linear) → RowsFit xs → RowsFit ys → RowsFit (xs ++ ys)
  join xs ys h e = list_all-append (fits_row N) xs ys ∙ and_true h e

  by_static : (s : Bool) (xs ys : List Linear) (ms ks : List Met) (n x y : ℕ) → all_kept (if s then ks else ms) ≡ true → n + (if s then y else x) ≤ N
      → (all_kept ms ≡ true → n + x ≤ N → RowsFit xs) → (all_kept ks ≡ true → n + y ≤ N → RowsFit ys) → RowsFit (if s then ys else xs)
  by_static true xs ys ms ks n x y m r f g = g m r
  by_static false xs ys ms ks n x y m r f g = f m r

  no_divisions : (n : ℕ) (x : Tree) (t : Bool) → truth_in x ≡ Some t → divisions limit fields n x ≡ []
  no_divisions n (Truth b) t e = refl
  no_divisions n (Number k) t e = absurd (cc)
  no_divisions n (Field f) t e = absurd (cc)
  no_divisions n (First f) t e = absurd (cc)
  no_divisions n (Last f) t e = absurd (cc)
  no_divisions n (Size f) t e = absurd (cc)
  no_divisions n Total t e = absurd (cc)
  no_divisions n (Neg a) t e = absurd (cc)
  no_divisions n (Not a) t e = absurd (cc)
  no_divisions n (Binary o a b) t e = absurd (cc)

  -- the operands of a test of equality, of which one may be spelled
  equal_rows : (s t : Option Bool) (xs ys : List Linear) (left right more : List Met) → ((b : Bool) → s ≡ Some b → xs ≡ []) → ((b : Bool) → t ≡ Some b → ys ≡ []) → all_kept (of_sides s t left right (left ++ (right ++ more))) ≡ true
      → (all_kept left ≡ true → RowsFit xs) → (all_kept right ≡ true → RowsFit ys) → RowsFit (xs ++ ys)
  equal_rows (Some b) t xs ys left right more e f k g h = join xs ys (ap (λ (rows : List Linear). list_all (fits_row N) rows) (e b refl)) (h k)
  equal_rows None (Some b) xs ys left right more e f k g h = join xs ys (g k) (ap (λ (rows : List Linear). list_all (fits_row N) rows) (f b refl))
  equal_rows None None xs ys left right more e f k g h = let p = split left (right ++ more) k in join xs ys (g p.0) (h (split right more p.1).0)

  divided_rows : (n : ℕ) (a b : Tree) → d ≤ n → 1 ≤ n → n + (divisions_in a + 1) ≤ N → all_kept (divided (n + divisions_in a) (linear fields n a) (static_value b)) ≡ true → IsNarrow limit a → IsNarrow limit b → IsDivisor (interval_of limit b)
      → RowsFit (division_rows (n + divisions_in a) (linear fields n a) (static_value b) (interval_of limit a))
  divided_rows n a b h e r k na nb v =
      let f = linear fields n a in
      let q = n + divisions_in a in
      division_fits N q f (static_value b) (low_to q f (short_linear fields d low n a h e) (both {a = is_low f} k).0) (omega (arith, r)) (divisor_positive limit b nb v) (divisor_below limit b nb v) (interval_of limit a) (short_of limit a na)

  pub divisions_fit : (n : ℕ) (x : Tree) → d ≤ n → 1 ≤ n → n + divisions_in x ≤ N → all_kept (met fields n x) ≡ true → IsNarrow limit x → RowsFit (divisions limit fields n x)
  divisions_fit n (Number k) h e r m w = refl
  divisions_fit n (Truth b) h e r m w = refl
  divisions_fit n (Field f) h e r m w = refl
  divisions_fit n (First f) h e r m w = refl
  divisions_fit n (Last f) h e r m w = refl
  divisions_fit n (Size f) h e r m w = refl
  divisions_fit n Total h e r m w = refl
  divisions_fit n (Neg a) h e r m w = divisions_fit n a h e r (split (met fields n a) (Part (linear fields n (Neg a)) ∷ []) m).0 w.1
  divisions_fit n (Not a) h e r m w = divisions_fit n a h e r m w.1
  divisions_fit n (Binary op.Add a b) h e r m w =
      let s = split (met fields n a) (met fields (n + divisions_in a) b ++ Part (linear fields n (Binary op.Add a b)) ∷ []) m in
      join (divisions limit fields n a) (divisions limit fields (n + divisions_in a) b) (divisions_fit n a h e (omega (arith, r)) s.0 w.2) (divisions_fit (n + divisions_in a) b (omega (arith, h)) (omega (arith, e)) (omega (arith, r)) (split (met fields (n + divisions_in a) b) (Part (linear fields n (Binary op.Add a b)) ∷ []) s.1).0 w.3)
  divisions_fit n (Binary op.Sub a b) h e r m w =
      let s = split (met fields n a) (met fields (n + divisions_in a) b ++ Part (linear fields n (Binary op.Sub a b)) ∷ []) m in
      join (divisions limit fields n a) (divisions limit fields (n + divisions_in a) b) (divisions_fit n a h e (omega (arith, r)) s.0 w.2) (divisions_fit (n + divisions_in a) b (omega (arith, h)) (omega (arith, e)) (omega (arith, r)) (split (met fields (n + divisions_in a) b) (Part (linear fields n (Binary op.Sub a b)) ∷ []) s.1).0 w.3)
  divisions_fit n (Binary op.Mul a b) h e r m w =
      by_static (is_static a) (divisions limit fields n a) (divisions limit fields n b) (met fields n a) (met fields n b) n (divisions_in a) (divisions_in b)
      (split (if is_static a then met fields n b else met fields n a) (Part (linear fields n (Binary op.Mul a b)) ∷ []) m).0 r
      (λ k l. divisions_fit n a h e l k w.2) (λ k l. divisions_fit n b h e l k w.3)
  divisions_fit n (Binary op.Div a b) h e r m w =
      let s = split (met fields n a) (divided (n + divisions_in a) (linear fields n a) (static_value b)) m in
      join (divisions limit fields n a) (division_rows (n + divisions_in a) (linear fields n a) (static_value b) (interval_of limit a)) (divisions_fit n a h e (omega (arith, r)) s.0 w.2) (divided_rows n a b h e r s.1 w.2 w.3 w.1)
  divisions_fit n (Binary op.Mod a b) h e r m w =
      let s = split (met fields n a) (divided (n + divisions_in a) (linear fields n a) (static_value b)) m in
      join (divisions limit fields n a) (division_rows (n + divisions_in a) (linear fields n a) (static_value b) (interval_of limit a)) (divisions_fit n a h e (omega (arith, r)) s.0 w.2) (divided_rows n a b h e r s.1 w.2 w.3 w.1)
  divisions_fit n (Binary op.And a b) h e r m w =
      let s = split (met fields n a) (met fields (n + divisions_in a) b) m in
      join (divisions limit fields n a) (divisions limit fields (n + divisions_in a) b) (divisions_fit n a h e (omega (arith, r)) s.0 w.2) (divisions_fit (n + divisions_in a) b (omega (arith, h)) (omega (arith, e)) (omega (arith, r)) s.1 w.3)
  divisions_fit n (Binary op.Or a b) h e r m w =
      let s = split (met fields n a) (met fields (n + divisions_in a) b) m in
      join (divisions limit fields n a) (divisions limit fields (n + divisions_in a) b) (divisions_fit n a h e (omega (arith, r)) s.0 w.2) (divisions_fit (n + divisions_in a) b (omega (arith, h)) (omega (arith, e)) (omega (arith, r)) s.1 w.3)
  divisions_fit n (Binary op.Equal a b) h e r m w =
      equal_rows (truth_in a) (truth_in b) (divisions limit fields n a) (divisions limit fields (n + divisions_in a) b) (met fields n a) (met fields (n + divisions_in a) b) (differences (linear fields n a) (linear fields (n + divisions_in a) b))
      (λ t x. no_divisions n a t x) (λ t x. no_divisions (n + divisions_in a) b t x) m
      (λ k. divisions_fit n a h e (omega (arith, r)) k w.2) (λ k. divisions_fit (n + divisions_in a) b (omega (arith, h)) (omega (arith, e)) (omega (arith, r)) k w.3)
  divisions_fit n (Binary op.NotEqual a b) h e r m w =
      equal_rows (truth_in a) (truth_in b) (divisions limit fields n a) (divisions limit fields (n + divisions_in a) b) (met fields n a) (met fields (n + divisions_in a) b) (differences (linear fields n a) (linear fields (n + divisions_in a) b))
      (λ t x. no_divisions n a t x) (λ t x. no_divisions (n + divisions_in a) b t x) m
      (λ k. divisions_fit n a h e (omega (arith, r)) k w.2) (λ k. divisions_fit (n + divisions_in a) b (omega (arith, h)) (omega (arith, e)) (omega (arith, r)) k w.3)
  divisions_fit n (Binary op.Less a b) h e r m w =
      let f = differences (linear fields n a) (linear fields (n + divisions_in a) b) in
      let s = split (met fields n a) (met fields (n + divisions_in a) b ++ f) m in
      join (divisions limit fields n a) (divisions limit fields (n + divisions_in a) b) (divisions_fit n a h e (omega (arith, r)) s.0 w.2) (divisions_fit (n + divisions_in a) b (omega (arith, h)) (omega (arith, e)) (omega (arith, r)) (split (met fields (n + divisions_in a) b) f s.1).0 w.3)
  divisions_fit n (Binary op.LessEqual a b) h e r m w =
      let f = differences (linear fields n a) (linear fields (n + divisions_in a) b) in
      let s = split (met fields n a) (met fields (n + divisions_in a) b ++ f) m in
      join (divisions limit fields n a) (divisions limit fields (n + divisions_in a) b) (divisions_fit n a h e (omega (arith, r)) s.0 w.2) (divisions_fit (n + divisions_in a) b (omega (arith, h)) (omega (arith, e)) (omega (arith, r)) (split (met fields (n + divisions_in a) b) f s.1).0 w.3)
  divisions_fit n (Binary op.Greater a b) h e r m w =
      let f = differences (linear fields n a) (linear fields (n + divisions_in a) b) in
      let s = split (met fields n a) (met fields (n + divisions_in a) b ++ f) m in
      join (divisions limit fields n a) (divisions limit fields (n + divisions_in a) b) (divisions_fit n a h e (omega (arith, r)) s.0 w.2) (divisions_fit (n + divisions_in a) b (omega (arith, h)) (omega (arith, e)) (omega (arith, r)) (split (met fields (n + divisions_in a) b) f s.1).0 w.3)
  divisions_fit n (Binary op.GreaterEqual a b) h e r m w =
      let f = differences (linear fields n a) (linear fields (n + divisions_in a) b) in
      let s = split (met fields n a) (met fields (n + divisions_in a) b ++ f) m in
      join (divisions limit fields n a) (divisions limit fields (n + divisions_in a) b) (divisions_fit n a h e (omega (arith, r)) s.0 w.2) (divisions_fit (n + divisions_in a) b (omega (arith, h)) (omega (arith, e)) (omega (arith, r)) (split (met fields (n + divisions_in a) b) f s.1).0 w.3)
