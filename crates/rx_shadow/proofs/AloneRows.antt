-- Which rows are unit rows, told by their only variable.
use Rattle.std.proofs.Common.{◌≡◌, ◌≢◌, refl, sym, ap, ◌∙◌, subst, ℕ, zero, suc, ◌+◌, ◌<◌, ◌≤◌, arith, List, [], ◌∷◌, take, drop, get_or, length, Bool, true, false, ◌&&◌, ◌==◌, ℤ, pos, None, inl, inr, ◌⊎◌, add-one}
use Rattle.std.specs.List.{list_all}
use Rattle.std.specs.Ordering.{int_eq}
use Rattle.std.proofs.lemmas.Bool.{cases_lt}
use Rattle.std.proofs.lemmas.Bool.Decides.{Decides-int_eq, Decides-eqb}
use Rattle.rx_linear.specs.declared.row.Row.{Row}
use Rattle.rx_linear.specs.Units.{coefficient, is_unit_row}
use Rattle.rx_shadow.specs.declared.marked.Alone.{Alone}
use Rattle.rx_shadow.specs.Bounds.{zero_elsewhere}
use Rattle.rx_shadow.specs.Marked.{IsAlone, Tells}
use Rattle.rx_shadow.proofs.Units.{unit_row_by_parts}

abbrev is_zero : ℤ → Bool
is_zero z = int_eq z (pos 0)

left : (a b : Bool) → (a && b) ≡ true → a ≡ true
left true b h = refl
left false b h = h

right : (a b : Bool) → (a && b) ≡ true → b ≡ true
right true b h = h
right false b h = cc

refuted : (b : Bool) → (b ≡ true → ⊥) → b ≡ false
refuted true h = absurd (h refl)
refuted false h = refl

off : (a b : Bool) → a ≡ false → (a && b) ≡ false
off a b e = ap (λ (t : Bool). t && b) e

off_right : (a b : Bool) → b ≡ false → (a && b) ≡ false
off_right true b e = e
off_right false b e = refl

zero_at : (cs : List ℤ) (x : ℕ) → list_all is_zero cs ≡ true → get_or cs x (pos 0) ≡ pos 0
zero_at [] x h = refl
zero_at (c ∷ cs) zero h = (Decides-int_eq c (pos 0)).0 (left (is_zero c) (list_all is_zero cs) h)
zero_at (c ∷ cs) (suc x) h = zero_at cs x (right (is_zero c) (list_all is_zero cs) h)

front_zero : (cs : List ℤ) (v x : ℕ) → list_all is_zero (take v cs) ≡ true → x < v → get_or cs x (pos 0) ≡ pos 0
front_zero [] v x h lt = refl
front_zero (c ∷ cs) zero x h lt = absurd (omega (arith, lt))
front_zero (c ∷ cs) (suc v) zero h lt = (Decides-int_eq c (pos 0)).0 (left (is_zero c) (list_all is_zero (take v cs)) h)
front_zero (c ∷ cs) (suc v) (suc x) h lt = front_zero cs v x (right (is_zero c) (list_all is_zero (take v cs)) h) (omega (arith, lt))

back_zero : (cs : List ℤ) (v x : ℕ) → list_all is_zero (drop (suc v) cs) ≡ true → v < x → get_or cs x (pos 0) ≡ pos 0
back_zero [] v x h lt = refl
back_zero (c ∷ cs) v zero h lt = absurd (omega (arith, lt))
back_zero (c ∷ cs) zero (suc x) h lt = zero_at cs x h
back_zero (c ∷ cs) (suc v) (suc x) h lt = back_zero cs v x h (omega (arith, lt))

behind : (cs : List ℤ) (v : ℕ) → list_all is_zero (drop (v + 1) cs) ≡ true → list_all is_zero (drop (suc v) cs) ≡ true
behind cs v h = subst (λ n. list_all is_zero (drop n cs) ≡ true) (add-one v) h

elsewhere_zero : (cs : List ℤ) (v x : ℕ) → zero_elsewhere v cs ≡ true → x ≢ v → get_or cs x (pos 0) ≡ pos 0
elsewhere_zero cs v x h other = by_side (cases_lt x v)
  where
    by_side : (x < v) ⊎ (v ≤ x) → get_or cs x (pos 0) ≡ pos 0
    by_side (inl lt) = front_zero cs v x (left (list_all is_zero (take v cs)) (list_all is_zero (drop (v + 1) cs)) h) lt
    by_side (inr le) = back_zero cs v x (behind cs v (right (list_all is_zero (take v cs)) (list_all is_zero (drop (v + 1) cs)) h)) (apart v x le other)
      where
        apart : (v x : ℕ) → v ≤ x → x ≢ v → v < x
        apart v x le other = by_less (cases_lt v x)
          where
            by_less : (v < x) ⊎ (x ≤ v) → v < x
            by_less (inl lt) = lt
            by_less (inr back) = absurd (other (omega (arith, le, back)))

-- a variable without a coefficient has no unit row
no_unit_at : (x : ℕ) (a : ℤ) (row : Row) → x < length row.coefficients → a ≢ pos 0 → coefficient x row ≡ pos 0 → is_unit_row x a row ≡ false
no_unit_at x a row within some none =
    unit_row_by_parts x a row within
    ∙ off (int_eq (coefficient x row) a) (zero_elsewhere x row.coefficients) (refuted (int_eq (coefficient x row) a) (λ t. some (sym ((Decides-int_eq (coefficient x row) a).0 t) ∙ none)))

-- what is told of a row without variables
pub none_alone : (row : Row) → list_all is_zero row.coefficients ≡ true → Tells None row
none_alone row all x a within some = no_unit_at x a row within some (zero_at row.coefficients x all)

-- what is told of one with more than one
pub more_alone : (row : Row) (v : ℕ) → list_all is_zero (take v row.coefficients) ≡ true → int_eq (coefficient v row) (pos 0) ≡ false → zero_elsewhere v row.coefficients ≡ false → Tells None row
more_alone row v front here other x a within some = by_side (cases_lt x v)
  where
    clash : false ≡ true → ⊥
    clash h = cc

    back : list_all is_zero (drop (v + 1) row.coefficients) ≡ false
    back = sym (ap (λ (t : Bool). t && list_all is_zero (drop (v + 1) row.coefficients)) front) ∙ other

    by_more : (v < x) ⊎ (x ≤ v) → v ≤ x → is_unit_row x a row ≡ false
    by_more (inl lt) le =
        unit_row_by_parts x a row within
        ∙ off_right (int_eq (coefficient x row) a) (zero_elsewhere x row.coefficients)
        (off (list_all is_zero (take x row.coefficients)) (list_all is_zero (drop (x + 1) row.coefficients))
        (refuted (list_all is_zero (take x row.coefficients)) (λ t. clash (sym here ∙ (Decides-int_eq (coefficient v row) (pos 0)).1 (front_zero row.coefficients x v t lt)))))
    by_more (inr back_le) le =
        let same : v ≡ x = omega (arith, le, back_le) in
        unit_row_by_parts x a row within
        ∙ off_right (int_eq (coefficient x row) a) (zero_elsewhere x row.coefficients)
        (off_right (list_all is_zero (take x row.coefficients)) (list_all is_zero (drop (x + 1) row.coefficients)) (subst (λ n. list_all is_zero (drop (n + 1) row.coefficients) ≡ false) same back))

    by_side : (x < v) ⊎ (v ≤ x) → is_unit_row x a row ≡ false
    by_side (inl lt) = no_unit_at x a row within some (front_zero row.coefficients v x front lt)
    by_side (inr le) = by_more (cases_lt v x) le

-- the row of an only variable is a unit row of it alone
pub unit_by_alone : (row : Row) (one : Alone) (x : ℕ) (a : ℤ) → IsAlone row.coefficients one → x < length row.coefficients → a ≢ pos 0 → (one.variable == x && int_eq one.coefficient a) ≡ is_unit_row x a row
unit_by_alone row one x a alone within some = by_test (one.variable == x) refl
  where
    by_test : (b : Bool) → (one.variable == x) ≡ b → (one.variable == x && int_eq one.coefficient a) ≡ is_unit_row x a row
    by_test true e =
        let same : one.variable ≡ x = (Decides-eqb one.variable x).0 e in
        ap (λ (t : Bool). t && int_eq one.coefficient a) e
        ∙ ap (λ (z : ℤ). int_eq z a) (sym alone.is ∙ ap (λ n. get_or row.coefficients n (pos 0)) same)
        ∙ sym (with_true (int_eq (coefficient x row) a) (zero_elsewhere x row.coefficients) (subst (λ n. zero_elsewhere n row.coefficients ≡ true) same alone.zero))
        ∙ sym (unit_row_by_parts x a row within)
      where
        with_true : (b c : Bool) → c ≡ true → (b && c) ≡ b
        with_true true c h = h
        with_true false c h = refl
    by_test false e =
        ap (λ (t : Bool). t && int_eq one.coefficient a) e
        ∙ sym (no_unit_at x a row within some (elsewhere_zero row.coefficients one.variable x alone.zero (λ s. no (sym e ∙ (Decides-eqb one.variable x).1 (sym s)))))
      where
        no : false ≡ true → ⊥
        no h = cc
