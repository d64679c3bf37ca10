-- Repeated elimination is a recursion on the number of variables that occur.
use Rattle.std.proofs.Common.{◌≡◌, refl, sym, ap, subst, ◌∙◌, ℕ, zero, suc, ◌+◌, ◌<◌, ◌≤◌, List, [], ◌∷◌, Bool, true, false, cond, not, ◌&&◌, ◌||◌, Option, Some, None, inl, inr, ◌⊎◌, arith}
use Rattle.std.specs.List.{list_all, list_any}
use Rattle.std.specs.Option.{is_some}
use Rattle.std.proofs.lemmas.Bool.{cases_eq}
use Rattle.rx_linear.specs.declared.row.Row.{Row}
use Rattle.rx_linear.specs.Joining.{has_no_variable}
use Rattle.rx_linear.proofs.Joining.{both}
use Rattle.rx_shadow.specs.Bounds.{fixed_value}
use Rattle.rx_shadow.specs.Simple.{Outcome, Clash, TrueRows, Neither, clashes, has, has_unit_pairs, is_exact, greatest_below, eliminated, within_limits, round, outcome_in, outcome}
use Rattle.rx_shadow.proofs.Points.{zero_at, all_zero, below_found, zero_eliminated_self, zero_eliminated_other}
use Rattle.rx_shadow.proofs.Outcomes.{round_at}

-- how many numbers below n pass
abbrev count_below : (ℕ → Bool) → ℕ → ℕ
count_below test zero = 0
count_below test (suc n) = cond (test n) 1 0 + count_below test n

-- how many of the variables below n occur
abbrev occurring : ℕ → List Row → ℕ
occurring n rows = count_below (λ y. list_any (has y) rows) n

count_le : (test : ℕ → Bool) (n : ℕ) → count_below test n ≤ n
count_le test zero = omega arith
count_le test (suc n) = one (test n) (count_le test n)
  where
    one : (b : Bool) → count_below test n ≤ n → cond b 1 0 + count_below test n ≤ suc n
    one true h = omega arith
    one false h = omega arith

at_most_one : (s t : Bool) → (s ≡ true → t ≡ true) → cond s 1 0 ≤ cond t 1 0
at_most_one true true f = omega arith
at_most_one true false f = absurd (let e = f refl in cc)
at_most_one false t f = omega arith

count_monotone : (s t : ℕ → Bool) (n : ℕ) → ((y : ℕ) → s y ≡ true → t y ≡ true) → count_below s n ≤ count_below t n
count_monotone s t zero f = omega arith
count_monotone s t (suc n) f = omega (arith, count_monotone s t n f, at_most_one (s n) (t n) (f n))

count_falls : (s t : ℕ → Bool) (n x : ℕ) → ((y : ℕ) → s y ≡ true → t y ≡ true) → x < n → t x ≡ true → s x ≡ false → count_below s n < count_below t n
count_falls s t zero x f h tx sx = absurd (omega arith)
count_falls s t (suc n) x f h tx sx = elim (cases_eq x n) [
  | inl e ↦
      let m = count_monotone s t n f in
      let tn : ◌≡◌ {A = ℕ} (cond (t n) 1 0) 1 = ap (λ (b : Bool). cond b 1 0) (ap t (sym e) ∙ tx) in
      let sn : ◌≡◌ {A = ℕ} (cond (s n) 1 0) 0 = ap (λ (b : Bool). cond b 1 0) (ap s (sym e) ∙ sx) in
      omega (arith, m, tn, sn)
  | inr ne ↦ omega (arith, count_falls s t n x f (omega (arith, h, ne)) tx sx, at_most_one (s n) (t n) (f n))
]

-- ---- which variables occur

none_has : (y : ℕ) (rows : List Row) → all_zero y rows ≡ true → list_any (has y) rows ≡ false
none_has y [] z = refl
none_has y (row ∷ rows) z =
    let parts = both {a = zero_at y row} {b = all_zero y rows} z in
    ap (λ (b : Bool). not b || list_any (has y) rows) parts.0 ∙ none_has y rows parts.1

zero_if_none : (y : ℕ) (rows : List Row) → list_any (has y) rows ≡ false → all_zero y rows ≡ true
zero_if_none y [] h = refl
zero_if_none y (row ∷ rows) h = by_test (zero_at y row) refl h (zero_if_none y rows)
  where
    by_test : (b : Bool) → zero_at y row ≡ b → (not b || list_any (has y) rows) ≡ false → (list_any (has y) rows ≡ false → all_zero y rows ≡ true) → (b && all_zero y rows) ≡ true
    by_test true e h rest = rest h
    by_test false e h rest = absurd (cc)

stays : (n x y : ℕ) (rows : List Row) → x < n → list_any (has y) (eliminated n x rows) ≡ true → list_any (has y) rows ≡ true
stays n x y rows hx h = by_test (list_any (has y) rows) refl (cases_eq y x)
  where
    by_test : (b : Bool) → list_any (has y) rows ≡ b → (y ≡ x) ⊎ (y ≡ x → ⊥) → list_any (has y) rows ≡ true
    by_test true e c = e
    by_test false e (inl same) = absurd (let g = none_has y (eliminated n x rows) (subst (λ (z : ℕ). all_zero z (eliminated n x rows) ≡ true) (sym same) (zero_eliminated_self n x rows hx)) in cc)
    by_test false e (inr ne) = absurd (let g = none_has y (eliminated n x rows) (zero_eliminated_other n x y rows ne (zero_if_none y rows e)) in cc)

fewer : (n x : ℕ) (rows : List Row) → greatest_below (is_exact rows) n ≡ Some x → occurring n (eliminated n x rows) < occurring n rows
fewer n x rows g =
    let f = below_found (is_exact rows) n x g in
    let occurs = (both {a = list_any (has x) rows} {b = is_some (fixed_value x rows) || has_unit_pairs x rows} f.1).0 in
    count_falls (λ y. list_any (has y) (eliminated n x rows)) (λ y. list_any (has y) rows) n x (λ y h. stays n x y rows f.0 h) f.0 occurs (none_has x (eliminated n x rows) (zero_eliminated_self n x rows f.0))

-- ---- as many rounds as variables occur

same_round : (f g : List Row → Outcome) (n : ℕ) (rows : List Row) → ((x : ℕ) → greatest_below (is_exact rows) n ≡ Some x → f (eliminated n x rows) ≡ g (eliminated n x rows)) → round f n rows ≡ round g n rows
same_round f g n rows same = by_found (greatest_below (is_exact rows) n) refl
  where
    by_found : (o : Option ℕ) → greatest_below (is_exact rows) n ≡ o → round f n rows ≡ round g n rows
    by_found None e = round_at f n rows (clashes n rows) (list_all has_no_variable rows) None refl refl e ∙ sym (round_at g n rows (clashes n rows) (list_all has_no_variable rows) None refl refl e)
    by_found (Some x) e =
        round_at f n rows (clashes n rows) (list_all has_no_variable rows) (Some x) refl refl e
        ∙ ap (λ (o : Outcome). cond (clashes n rows) Clash (cond (list_all has_no_variable rows) TrueRows (cond (within_limits (eliminated n x rows)) o Neither))) (same x e)
        ∙ sym (round_at g n rows (clashes n rows) (list_all has_no_variable rows) (Some x) refl refl e)

one_more : (n k : ℕ) (rows : List Row) → occurring n rows ≤ k → outcome_in n k rows ≡ outcome_in n (suc k) rows
unfolding outcome_in
one_more n zero rows h = same_round (λ _. Neither) (outcome_in n 0) n rows (λ x e. absurd (let f = fewer n x rows e in omega (arith, f, h)))
one_more n (suc k) rows h = same_round (outcome_in n k) (outcome_in n (suc k)) n rows (λ x e. one_more n k (eliminated n x rows) (let f = fewer n x rows e in omega (arith, f, h)))

-- what elimination comes to is one round, and then what the elimination of the rows that it leaves comes to
pub outcome_recursion : (n : ℕ) (rows : List Row) → outcome n rows ≡ round (outcome n) n rows
unfolding outcome_in
outcome_recursion n rows = one_more n n rows (count_le (λ y. list_any (has y) rows) n)
