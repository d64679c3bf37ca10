-- The greatest constant of the unit rows with one coefficient, row by row.
use Rattle.std.proofs.Common.{◌≡◌, refl, sym, ap, ◌∙◌, ℕ, ◌+◌, ◌<◌, List, [], ◌∷◌, ◌++◌, map, take, get_or, length, Bool, true, false, cond, ℤ, Option, Some}
use Rattle.std.specs.List.{filter}
use Rattle.std.specs.Int.{int_max}
use Rattle.std.proofs.lemmas.List.{take_more, map-append, append-nil}
use Rattle.std.proofs.lemmas.List.Sums.{fold-append}
use Rattle.std.proofs.lemmas.List.Elements.{filter-append}
use Rattle.rx_linear.specs.declared.row.Row.{Row}
use Rattle.rx_linear.specs.Units.{is_unit_row}
use Rattle.rx_shadow.specs.declared.known.Known.{Known}
use Rattle.rx_shadow.specs.Bounds.{greatest_of, raised}
use Rattle.rx_shadow.specs.Known.{rows_of}

-- the greatest constant of the unit rows with coefficient a of variable x
abbrev pub greatest_constant : ℕ → ℤ → List Row → Option ℤ
greatest_constant x a rows = greatest_of (map (λ row. row.least) (filter (is_unit_row x a) rows))

greatest_of-push : (zs : List ℤ) (z : ℤ) → greatest_of (zs ++ z ∷ []) ≡ Some (raised (greatest_of zs) z)
greatest_of-push [] z = refl
greatest_of-push (y ∷ ys) z = ap (λ (n : ℤ). Some n) (fold-append int_max y ys (z ∷ []))

constant-push : (x : ℕ) (a : ℤ) (rows : List Row) (row : Row) (b : Bool) → is_unit_row x a row ≡ b → greatest_constant x a (rows ++ row ∷ []) ≡ cond b (Some (raised (greatest_constant x a rows) row.least)) (greatest_constant x a rows)
constant-push x a rows row b e =
    ap (λ (rs : List Row). greatest_of (map (λ r. r.least) rs)) (filter-append (is_unit_row x a) rows (row ∷ []))
    ∙ ap (λ (t : Bool). greatest_of (map (λ r. r.least) (filter (is_unit_row x a) rows ++ cond t (row ∷ []) []))) e
    ∙ ap greatest_of (map-append (λ (r : Row). r.least) (filter (is_unit_row x a) rows) (cond b (row ∷ []) []))
    ∙ by_test b
  where
    by_test : (b : Bool) → greatest_of (map (λ r. r.least) (filter (is_unit_row x a) rows) ++ map (λ r. r.least) (cond b (row ∷ []) [])) ≡ cond b (Some (raised (greatest_constant x a rows) row.least)) (greatest_constant x a rows)
    by_test true = greatest_of-push (map (λ r. r.least) (filter (is_unit_row x a) rows)) row.least
    by_test false = ap greatest_of (append-nil (map (λ (r : Row). r.least) (filter (is_unit_row x a) rows)))

rows_more : (known : List Known) (i : ℕ) (k : Known) → i < length known → k ≡ get_or known i k → rows_of (take (i + 1) known) ≡ rows_of (take i known) ++ k.row ∷ []
rows_more known i k h e =
    ap rows_of (take_more known i k h) ∙ map-append (λ (k : Known). k.row) (take i known) (get_or known i k ∷ []) ∙ ap (λ (j : Known). rows_of (take i known) ++ j.row ∷ []) (sym e)

pub constant_more_passed : (x : ℕ) (a : ℤ) (known : List Known) (i : ℕ) (k : Known) → i < length known → k ≡ get_or known i k → is_unit_row x a k.row ≡ true → greatest_constant x a (rows_of (take (i + 1) known)) ≡ Some (raised (greatest_constant x a (rows_of (take i known))) k.row.least)
constant_more_passed x a known i k h e t = ap (greatest_constant x a) (rows_more known i k h e) ∙ constant-push x a (rows_of (take i known)) k.row true t

pub constant_more_failed : (x : ℕ) (a : ℤ) (known : List Known) (i : ℕ) (k : Known) → i < length known → k ≡ get_or known i k → is_unit_row x a k.row ≡ false → greatest_constant x a (rows_of (take (i + 1) known)) ≡ greatest_constant x a (rows_of (take i known))
constant_more_failed x a known i k h e t = ap (greatest_constant x a) (rows_more known i k h e) ∙ constant-push x a (rows_of (take i known)) k.row false t
