-- Rows of one variable alone are there when rows are joined.
use Rattle.std.proofs.Common.{◌≡◌, refl, ap, subst, ◌∙◌, ℕ, zero, suc, ◌<◌, ◌≤◌, max, arith, List, [], ◌∷◌, ◌++◌, length, get_or, Bool, true, false, cond, ◌&&◌, ◌||◌, ℤ, pos, unsigned_abs}
use Rattle.std.specs.List.{list_all, list_any}
use Rattle.std.specs.Int.{◌∣◌}
use Rattle.std.specs.Ordering.{int_eq}
use Rattle.std.specs.Cmp.Lexicographic.{pointwise}
use Rattle.std.proofs.lemmas.Int.{ints}
use Rattle.std.proofs.lemmas.Bool.Decides.{Decides-int_eq}
use Rattle.std.proofs.lemmas.Nat.Gcd.{le_of_dvd}
use Rattle.std.proofs.lemmas.List.Elements.{All-get_or}
use Rattle.rx_linear.specs.declared.row.Row.{Row}
use Rattle.rx_linear.specs.Divisors.{common_divisor_of}
use Rattle.rx_linear.specs.Rows.{tight}
use Rattle.rx_linear.specs.Units.{coefficient, unit, is_unit_row}
use Rattle.rx_linear.specs.Joining.{same_row, is_true, has_no_variable, joined_one, joined}
use Rattle.rx_linear.proofs.Divisors.{divisor_divides}
use Rattle.rx_linear.proofs.Tight.{whole_row_is_tight}
use Rattle.rx_linear.proofs.Joining.{both}

same_list : (xs ys : List ℤ) → pointwise int_eq xs ys ≡ true → xs ≡ ys
same_list [] [] h = refl
same_list [] (y ∷ ys) h = absurd (cc)
same_list (x ∷ xs) [] h = absurd (cc)
same_list (x ∷ xs) (y ∷ ys) h =
    let p = both {a = int_eq x y} h in
    ap (λ (z : ℤ). z ∷ xs) ((Decides-int_eq x y).0 p.0) ∙ ap (λ (zs : List ℤ). y ∷ zs) (same_list xs ys p.1)

none_at : (cs : List ℤ) (x : ℕ) → list_all (λ c. int_eq c (pos 0)) cs ≡ true → get_or cs x (pos 0) ≡ pos 0
none_at [] x h = refl
none_at (c ∷ cs) zero h = (Decides-int_eq c (pos 0)).0 (both {a = int_eq c (pos 0)} h).0
none_at (c ∷ cs) (suc x) h = none_at cs x (both {a = int_eq c (pos 0)} h).1

inside : (cs : List ℤ) (x : ℕ) → unsigned_abs (get_or cs x (pos 0)) ≡ 1 → x < length cs
inside [] x h = absurd (omega (arith, ints, h))
inside (c ∷ cs) zero h = omega arith
inside (c ∷ cs) (suc x) h = let r = inside cs x h in omega (arith, r)

divisor_of_one : (d n : ℕ) → n ≡ 1 → d ∣ n → d ≤ 1
divisor_of_one d n e h = let l = le_of_dvd (omega (arith, e)) h in omega (arith, l, e)

module _ (x : ℕ) (a : ℤ) (one : unsigned_abs a ≡ 1) where
  abbrev is_unit : Row → Bool
  is_unit row = is_unit_row x a row

  unit_at : (row : Row) → is_unit row ≡ true → get_or row.coefficients x (pos 0) ≡ a
  unit_at row h = (Decides-int_eq (coefficient x row) a).0 (both {a = int_eq (coefficient x row) a} h).0

  magnitude : (row : Row) → is_unit row ≡ true → unsigned_abs (get_or row.coefficients x (pos 0)) ≡ 1
  magnitude row h = ap (λ (z : ℤ). unsigned_abs z) (unit_at row h) ∙ one

  unit_is_tight : (row : Row) → is_unit row ≡ true → row ≡ tight row
  unit_is_tight row h =
      let cs = row.coefficients in
      let d = All-get_or (λ c. max 1 (common_divisor_of cs) ∣ unsigned_abs c) cs x (pos 0) (inside cs x (magnitude row h)) (divisor_divides cs) in
      let least = divisor_of_one (max 1 (common_divisor_of cs)) (unsigned_abs (get_or cs x (pos 0))) (magnitude row h) d in
      whole_row_is_tight row (common_divisor_of cs) (omega (arith, least)) refl

  unit_not_true : (row : Row) → is_unit row ≡ true → is_true row ≡ true → ⊥
  unit_not_true row h t =
      let n = none_at row.coefficients x (both {a = has_no_variable row} t).0 in
      let m = magnitude row h in
      zero_one (get_or row.coefficients x (pos 0)) n m
    where
      zero_one : (z : ℤ) → z ≡ pos 0 → unsigned_abs z ≡ 1 → ⊥
      zero_one z e f = omega (arith, ints, e, f)

  same_unit : (row other : Row) → is_unit row ≡ true → same_row row other ≡ true → is_unit other ≡ true
  same_unit row other h s =
      let e = same_list row.coefficients other.coefficients (both {b = pointwise int_eq row.coefficients other.coefficients} s).1 in
      subst (λ (cs : List ℤ). (int_eq (get_or cs x (pos 0)) a && pointwise int_eq cs (unit (length cs) x a)) ≡ true) e h

  or_left : (b c : Bool) → b ≡ true → (b || c) ≡ true
  or_left b c h = ap (λ (t : Bool). t || c) h

  or_right : (b c : Bool) → c ≡ true → (b || c) ≡ true
  or_right true c h = refl
  or_right false c h = h

  by_or : {A : Type 0} (b c : Bool) → (b || c) ≡ true → (b ≡ true → A) → (c ≡ true → A) → A
  by_or true c h f g = f refl
  by_or false c h f g = g h

  there_already : (row : Row) (rows : List Row) → is_unit row ≡ true → list_any (same_row row) rows ≡ true → list_any is_unit rows ≡ true
  there_already row [] h s = absurd (cc)
  there_already row (r ∷ rows) h s =
      by_or (same_row row r) (list_any (same_row row) rows) s (λ e. or_left (is_unit r) (list_any is_unit rows) (same_unit row r h e)) (λ e. or_right (is_unit r) (list_any is_unit rows) (there_already row rows h e))

  any_left : (rows more : List Row) → list_any is_unit rows ≡ true → list_any is_unit (rows ++ more) ≡ true
  any_left [] more h = absurd (cc)
  any_left (r ∷ rows) more h =
      by_or (is_unit r) (list_any is_unit rows) h (λ e. or_left (is_unit r) (list_any is_unit (rows ++ more)) e) (λ e. or_right (is_unit r) (list_any is_unit (rows ++ more)) (any_left rows more e))

  any_last : (rows : List Row) (row : Row) → is_unit row ≡ true → list_any is_unit (rows ++ row ∷ []) ≡ true
  any_last [] row h = or_left (is_unit row) false h
  any_last (r ∷ rows) row h = or_right (is_unit r) (list_any is_unit (rows ++ row ∷ [])) (any_last rows row h)

  kept_one : (rows : List Row) (row : Row) → list_any is_unit rows ≡ true → list_any is_unit (joined_one rows row) ≡ true
  kept_one rows row h = by_test (is_true row || list_any (same_row row) rows)
    where
      by_test : (b : Bool) → list_any is_unit (cond b rows (rows ++ row ∷ [])) ≡ true
      by_test true = h
      by_test false = any_left rows (row ∷ []) h

  kept : (rows more : List Row) → list_any is_unit rows ≡ true → list_any is_unit (joined rows more) ≡ true
  kept rows [] h = h
  kept rows (row ∷ more) h = kept (joined_one rows (tight row)) more (kept_one rows (tight row) h)

  put_one : (rows : List Row) (row : Row) → is_unit row ≡ true → list_any is_unit (joined_one rows row) ≡ true
  put_one rows row h = by_test (is_true row || list_any (same_row row) rows) refl
    where
      by_test : (b : Bool) → (is_true row || list_any (same_row row) rows) ≡ b → list_any is_unit (cond b rows (rows ++ row ∷ [])) ≡ true
      by_test true e = by_or (is_true row) (list_any (same_row row) rows) e (λ t. absurd (unit_not_true row h t)) (λ s. there_already row rows h s)
      by_test false e = any_last rows row h

  pub unit_joined : (rows more : List Row) → list_any is_unit more ≡ true → list_any is_unit (joined rows more) ≡ true
  unit_joined rows [] h = absurd (cc)
  unit_joined rows (row ∷ more) h =
      by_or (is_unit row) (list_any is_unit more) h
      (λ e. kept (joined_one rows (tight row)) more (put_one rows (tight row) (subst (λ (r : Row). is_unit r ≡ true) (unit_is_tight row e) e)))
      (λ e. unit_joined (joined_one rows (tight row)) more e)
