-- Exact variables, by one pass over the rows.
use Rattle.std.proofs.Common.{◌≡◌, refl, sym, ap, ◌∙◌, ℕ, zero, suc, ◌<◌, arith, List, [], ◌∷◌, Bool, true, false, cond, not, ◌&&◌, ◌||◌, pos, negsuc, int_lt, Some, inl, inr, add-one, ◌+◌, ◌-◌}
use Rattle.std.specs.List.{list_all, filter}
use Rattle.std.specs.Ordering.{int_eq}
use Rattle.std.proofs.lemmas.Bool.{cases_eq}
use Rattle.rx_linear.specs.declared.row.Row.{Row}
use Rattle.rx_linear.specs.Units.{coefficient}
use Rattle.rx_shadow.specs.declared.known.Known.{Known}
use Rattle.rx_shadow.specs.Simple.{positives, negatives, is_unit_pair, has_unit_pairs, any_below, greatest_below}
use Rattle.rx_shadow.specs.Bounds.{narrowest, is_narrower}
use Rattle.rx_shadow.specs.Known.{rows_of}
use Rattle.rx_shadow.specs.BoundRows.{is_one_if_positive, is_one_if_negative}

pub all_rows : (p : Row → Bool) (known : List Known) → list_all p (rows_of known) ≡ list_all (λ k. p k.row) known
all_rows p [] = refl
all_rows p (k ∷ known) = ap (λ (b : Bool). p k.row && b) (all_rows p known)

all_either : (b : Bool) (q : Row → Bool) (rows : List Row) → list_all (λ row. b || q row) rows ≡ (b || list_all q rows)
all_either false q rows = refl
all_either true q [] = refl
all_either true q (row ∷ rows) = all_either true q rows

each_or : (p : Row → Bool) (c : Bool) (f : Row → Bool) (rows : List Row) → ((row : Row) → f row ≡ (p row || c)) → list_all f rows ≡ (list_all p rows || c)
each_or p c f [] e = refl
each_or p c f (row ∷ rows) e = ap (λ (b : Bool). b && list_all f rows) (e row) ∙ ap (λ (b : Bool). (p row || c) && b) (each_or p c f rows e) ∙ spread (p row) (list_all p rows) c
  where
    spread : (a b c : Bool) → ((a || c) && (b || c)) ≡ ((a && b) || c)
    spread true b c = refl
    spread false b true = or_true b
      where
        or_true : (b : Bool) → (b || true) ≡ true
        or_true true = refl
        or_true false = refl
    spread false b false = refl

filtered : (q p : Row → Bool) (known : List Known) → list_all p (filter q (rows_of known)) ≡ list_all (λ k. not (q k.row) || p k.row) known
filtered q p [] = refl
filtered q p (k ∷ known) = by_test (q k.row) (filtered q p known)
  where
    by_test : (b : Bool) → list_all p (filter q (rows_of known)) ≡ list_all (λ j. not (q j.row) || p j.row) known → list_all p (cond b (k.row ∷ filter q (rows_of known)) (filter q (rows_of known))) ≡ ((not b || p k.row) && list_all (λ j. not (q j.row) || p j.row) known)
    by_test true e = ap (λ (b : Bool). p k.row && b) e
    by_test false e = e

-- all pairs have a coefficient 1 exactly if all positive or all negative coefficients are 1 in magnitude
pub unit_pairs : (x : ℕ) (known : List Known) → has_unit_pairs x (rows_of known) ≡ (list_all (is_one_if_positive x) known || list_all (is_one_if_negative x) known)
unit_pairs x known =
    each_or (λ row. int_eq (coefficient x row) (pos 1)) (list_all (λ row. int_eq (coefficient x row) (negsuc 0)) (negatives x (rows_of known)))
    (λ first. list_all (is_unit_pair x first) (negatives x (rows_of known))) (positives x (rows_of known))
    (λ first. all_either (int_eq (coefficient x first) (pos 1)) (λ row. int_eq (coefficient x row) (negsuc 0)) (negatives x (rows_of known)))
    ∙ ap (λ (b : Bool). b || list_all (λ row. int_eq (coefficient x row) (negsuc 0)) (negatives x (rows_of known))) (filtered (λ row. int_lt (pos 0) (coefficient x row)) (λ row. int_eq (coefficient x row) (pos 1)) known)
    ∙ ap (λ (b : Bool). list_all (is_one_if_positive x) known || b) (filtered (λ row. int_lt (coefficient x row) (pos 0)) (λ row. int_eq (coefficient x row) (negsuc 0)) known)

-- ---- a test of the numbers below n

pub any_below_at : (test : ℕ → Bool) (n x : ℕ) → x < n → test x ≡ true → any_below test n ≡ true
any_below_at test zero x h t = absurd (omega arith)
any_below_at test (suc n) x h t = elim (cases_eq x n) [
  | inl e ↦ ap (λ (b : Bool). b || any_below test n) (ap test (sym e) ∙ t)
  | inr ne ↦ ap (λ (b : Bool). test n || b) (any_below_at test n x (omega (arith, h, ne)) t) ∙ or_true (test n)
]
  where
    or_true : (b : Bool) → (b || true) ≡ true
    or_true true = refl
    or_true false = refl

pub any_below_more : (test : ℕ → Bool) (n : ℕ) → any_below test n ≡ false → test n ≡ false → any_below test (n + 1) ≡ false
any_below_more test n h t = ap (any_below test) (add-one n) ∙ ap (λ (b : Bool). b || any_below test n) t ∙ h

pub narrowest_step : (rows : List Row) (n best : ℕ) (b : Bool) → best ≡ narrowest n rows → is_narrower rows n best ≡ b → cond b n best ≡ narrowest (n + 1) rows
narrowest_step rows n best b e t =
    ap (λ (c : Bool). cond c n best) (sym t ∙ ap (is_narrower rows n) e)
    ∙ ap (λ (m : ℕ). cond (is_narrower rows n (narrowest n rows)) n m) e
    ∙ sym (ap (λ (m : ℕ). narrowest m rows) (add-one n))

pub greatest_below_step : (test : ℕ → Bool) (n : ℕ) → 0 < n → test (n - 1) ≡ false → greatest_below test (n - 1) ≡ greatest_below test n
greatest_below_step test zero h t = absurd (omega arith)
greatest_below_step test (suc n) h t =
    let e : suc n - 1 ≡ n = omega arith in
    ap (greatest_below test) e ∙ ap (λ (b : Bool). cond b (Some n) (greatest_below test n)) (sym (ap test (sym e) ∙ t))
