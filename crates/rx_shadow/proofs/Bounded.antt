-- Which variables have unit rows, by their bounds.
use Rattle.std.proofs.Common.{◌≡◌, refl, sym, ap, ◌∙◌, ℕ, ◌+◌, List, Bool, true, false, ◌&&◌, ℤ, pos, negsuc, neg_ℤ, Option, Some, None, option_map, inl, inr, arith}
use Rattle.std.specs.List.{Contains, list_any}
use Rattle.std.proofs.lemmas.Bool.{cases_lt}
use Rattle.std.proofs.lemmas.List.Folds.{list_any_at}
use Rattle.rx_linear.specs.declared.row.Row.{Row}
use Rattle.rx_linear.specs.Units.{is_unit_row}
use Rattle.rx_linear.proofs.Joining.{both, and_true}
use Rattle.rx_shadow.specs.declared.known.Known.{Known}
use Rattle.rx_shadow.specs.Bounds.{has_unit_rows, HasUnitRows, IsBounded}
use Rattle.rx_shadow.specs.Known.{rows_of}
use Rattle.rx_shadow.specs.BoundRows.{AreBounds, LacksBound}
use Rattle.rx_shadow.proofs.RowTests.{any_rows}
use Rattle.rx_shadow.proofs.Greatest.{greatest_constant}
use Rattle.rx_shadow.proofs.Closings.{upper_is}
use Rattle.rx_shadow.proofs.Raising.{no_unit}

any_among : (p : Row → Bool) (known : List Known) (k : Known) → Contains known k → p k.row ≡ true → list_any p (rows_of known) ≡ true
any_among p known k c t = any_rows p known ∙ list_any_at (λ (j : Known). p j.row) known c.0 k c.1 (ap (λ (j : Known). p j.row) c.2 ∙ t)

none_any : (x : ℕ) (a : ℤ) (rows : List Row) → greatest_constant x a rows ≡ None → list_any (is_unit_row x a) rows ≡ false
none_any x a rows e = by_test (list_any (is_unit_row x a) rows) refl
  where
    by_test : (b : Bool) → list_any (is_unit_row x a) rows ≡ b → list_any (is_unit_row x a) rows ≡ false
    by_test true t = absurd (no_unit x a rows t (sym e))
    by_test false t = t

mapped_none : (o : Option ℤ) → option_map neg_ℤ o ≡ None → o ≡ None
mapped_none None e = refl
mapped_none (Some z) e = absurd (cc)

false_last : (a b : Bool) → b ≡ false → (a && b) ≡ false
false_last true b e = e
false_last false b e = refl

pub bounded_has : (x : ℕ) (known : List Known) (low high : Known) → AreBounds x known low high → has_unit_rows x (rows_of known) ≡ true
bounded_has x known low high b = and_true (any_among (is_unit_row x (pos 1)) known low b.low_among b.low_unit) (any_among (is_unit_row x (negsuc 0)) known high b.high_among b.high_unit)

pub unbounded_lacks : (x : ℕ) (known : List Known) → LacksBound x known → has_unit_rows x (rows_of known) ≡ false
unbounded_lacks x known (inl e) = ap (λ (b : Bool). b && list_any (is_unit_row x (negsuc 0)) (rows_of known)) (none_any x (pos 1) (rows_of known) e)
unbounded_lacks x known (inr e) =
    false_last (list_any (is_unit_row x (pos 1)) (rows_of known)) (list_any (is_unit_row x (negsuc 0)) (rows_of known))
    (none_any x (negsuc 0) (rows_of known) (mapped_none (greatest_constant x (negsuc 0) (rows_of known)) (sym (upper_is x (rows_of known)) ∙ e)))

pub has_more : (n : ℕ) (rows : List Row) → HasUnitRows n rows → has_unit_rows n rows ≡ true → HasUnitRows (n + 1) rows
has_more n rows h t x l = elim (cases_lt x n) [
  | inl below ↦ h x below
  | inr above ↦ (let e : n ≡ x = omega (arith, l, above) in ap (λ (m : ℕ). has_unit_rows m rows) (sym e) ∙ t)
]

pub bounded_below : (n : ℕ) (rows : List Row) → HasUnitRows n rows → IsBounded (pos 1) n rows
bounded_below n rows h x l = inr (both {a = list_any (is_unit_row x (pos 1)) rows} {b = list_any (is_unit_row x (negsuc 0)) rows} (h x l)).0

pub bounded_above : (n : ℕ) (rows : List Row) → HasUnitRows n rows → IsBounded (negsuc 0) n rows
bounded_above n rows h x l = inr (both {a = list_any (is_unit_row x (pos 1)) rows} {b = list_any (is_unit_row x (negsuc 0)) rows} (h x l)).1
