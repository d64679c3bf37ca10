-- The rows of a division leave its quotient no choice.
use Rattle.std.proofs.Common.{◌≡◌, refl, sym, ap, subst, ◌∙◌, ℕ, zero, suc, ◌+◌, arith, List, ◌++◌, Bool, true, false, if◌then◌else◌, get_or, ℤ, pos, negsuc, ◌+ℤ◌, ◌-ℤ◌, ◌*ℤ◌, ◌<ℤ◌, ◌≤ℤ◌, int_le, neg_ℤ}
use Rattle.std.specs.Int.{int_div_euclid}
use Rattle.std.proofs.lemmas.Int.{ints}
use Rattle.std.proofs.lemmas.List.Folds.{list_all-append}
use Rattle.rx_forms.proofs.Tests.{both, and_true}
use Rattle.rx_model.proofs.Ring.{times_add, times_lt_back, div_bounds}
use Rattle.rx_types.specs.declared.expr.Operator.TheVariants as op
use Rattle.rx_types.specs.Tree.{Tree, Number, Truth, Field, First, Last, Size, Total, Neg, Not, Binary}
use Rattle.rx_types.specs.Environment.{Environment}
use Rattle.rx_types.specs.Value.{value_of}
use Rattle.rx_types.specs.declared.interval.Interval.{Interval}
use Rattle.rx_types.specs.Narrow.{IsIn, interval_of, IsNarrow, StaysWithin}
use Rattle.rx_types.specs.Static.{is_static, static_value}
use Rattle.rx_types.proofs.Within.{quotient_up, value_in}
use Rattle.rx_forms.specs.declared.linear.Linear.{Linear}
use Rattle.rx_forms.specs.Linear.{at, term, minus, not_below_zero}
use Rattle.rx_forms.specs.Normal.{Formed, linear, divisions_in, IsNumeric}
use Rattle.rx_forms.specs.Divisions.{division_rows, divisions}
use Rattle.rx_forms.specs.Points.{Represents, Solves, Chosen}
use Rattle.rx_forms.proofs.Sums.{at_minus, at_term}
use Rattle.rx_forms.proofs.Values.{linear_value, nothing_more}

pub from_le : (x y : ℤ) → int_le x y ≡ true → x ≤ℤ y
from_le x y e = omega (arith, ints, e)

pub to_le : (x y : ℤ) → x ≤ℤ y → int_le x y ≡ true
to_le x y h = grind (arith, ints, h)

-- one quotient alone lies between
one_quotient : (z q k : ℤ) → pos 0 <ℤ k → (k *ℤ q) ≤ℤ z → z <ℤ (k *ℤ q +ℤ k) → q ≡ int_div_euclid z k
one_quotient z q (pos k) p l u =
    let d = int_div_euclid z (pos k) in
    let b = div_bounds z k (omega (arith, ints, p)) in
    let n : pos 0 ≤ℤ pos k = omega (arith, ints) in
    let e1 : pos k *ℤ (q +ℤ pos 1) ≡ pos k *ℤ q +ℤ pos k = times_add (pos k) q (pos 1) ∙ (let o : pos k *ℤ pos 1 ≡ pos k = omega (arith, ints) in ap (λ (y : ℤ). pos k *ℤ q +ℤ y) o) in
    let e2 : pos k *ℤ (d +ℤ pos 1) ≡ pos k *ℤ d +ℤ pos k = times_add (pos k) d (pos 1) ∙ (let o : pos k *ℤ pos 1 ≡ pos k = omega (arith, ints) in ap (λ (y : ℤ). pos k *ℤ d +ℤ y) o) in
    let b0 = b.0 in
    let b1 = b.1 in
    let up : q <ℤ (d +ℤ pos 1) = times_lt_back (pos k) q (d +ℤ pos 1) n (omega (arith, ints)) in
    let down : d <ℤ (q +ℤ pos 1) = times_lt_back (pos k) d (q +ℤ pos 1) n (omega (arith, ints)) in
    omega (arith, ints)
one_quotient z q (negsuc k) p l u = absurd p.lt

bounds_again : (z k : ℤ) → pos 0 <ℤ k → ((k *ℤ int_div_euclid z k) ≤ℤ z) × (z <ℤ (k *ℤ int_div_euclid z k +ℤ k))
bounds_again z (pos k) p = div_bounds z k (omega (arith, ints, p))
bounds_again z (negsuc k) p = absurd p.lt

quotient_up_by : (a b k : ℤ) → pos 0 <ℤ k → a ≤ℤ b → int_div_euclid a k ≤ℤ int_div_euclid b k
quotient_up_by a b (pos zero) p h = absurd p.lt
quotient_up_by a b (pos (suc k)) p h = quotient_up a b k h
quotient_up_by a b (negsuc k) p h = absurd p.lt

module _ (point : List ℤ) where
  first_row : (q : ℕ) (form : Linear) (k : ℤ) → at (minus form (term k q (pos 0))) point ≡ at form point -ℤ k *ℤ get_or point q (pos 0)
  first_row q form k = at_minus form (term k q (pos 0)) point ∙ ap (λ (z : ℤ). at form point -ℤ z) (at_term k q (pos 0) point ∙ nothing_more (k *ℤ get_or point q (pos 0)))

  second_row : (q : ℕ) (form : Linear) (k : ℤ) → at (minus (term k q (k -ℤ pos 1)) form) point ≡ k *ℤ get_or point q (pos 0) +ℤ (k -ℤ pos 1) -ℤ at form point
  second_row q form k = at_minus (term k q (k -ℤ pos 1)) form point ∙ ap (λ (z : ℤ). z -ℤ at form point) (at_term k q (k -ℤ pos 1) point)

  third_row : (q : ℕ) (c : ℤ) → at (term (pos 1) q (neg_ℤ c)) point ≡ get_or point q (pos 0) -ℤ c
  third_row q c = let e = at_term (pos 1) q (neg_ℤ c) point in omega (arith, ints)

  fourth_row : (q : ℕ) (c : ℤ) → at (term (negsuc 0) q c) point ≡ c -ℤ get_or point q (pos 0)
  fourth_row q c = let e = at_term (negsuc 0) q c point in omega (arith, ints)

  row_from : (form : Linear) (z : ℤ) → at form point ≡ z → int_le (pos 0) (at form point) ≡ true → pos 0 ≤ℤ z
  row_from form z e h = subst (λ (y : ℤ). pos 0 ≤ℤ y) e (from_le (pos 0) (at form point) h)

  row_to : (form : Linear) (z : ℤ) → at form point ≡ z → pos 0 ≤ℤ z → int_le (pos 0) (at form point) ≡ true
  row_to form z e h = to_le (pos 0) (at form point) (subst (λ (y : ℤ). pos 0 ≤ℤ y) (sym e) h)

  bounds_of : (z k q : ℤ) → pos 0 ≤ℤ (z -ℤ k *ℤ q) → pos 0 ≤ℤ (k *ℤ q +ℤ (k -ℤ pos 1) -ℤ z) → ((k *ℤ q) ≤ℤ z) × (z <ℤ (k *ℤ q +ℤ k))
  bounds_of z k q a b = (omega (arith, ints), omega (arith, ints))

  -- where the rows of a division hold, its variable is the quotient
  pub quotient_of_rows : (q : ℕ) (form : Linear) (k : ℤ) (i : Interval) → pos 0 <ℤ k → not_below_zero point (division_rows q form k i) ≡ true → get_or point q (pos 0) ≡ int_div_euclid (at form point) k
  quotient_of_rows q form k i p h =
      let h1 = both {a = int_le (pos 0) (at (minus form (term k q (pos 0))) point)} h in
      let h2 = both {a = int_le (pos 0) (at (minus (term k q (k -ℤ pos 1)) form) point)} h1.1 in
      let b = bounds_of (at form point) k (get_or point q (pos 0)) (row_from (minus form (term k q (pos 0))) _ (first_row q form k) h1.0) (row_from (minus (term k q (k -ℤ pos 1)) form) _ (second_row q form k) h2.0) in
      one_quotient (at form point) (get_or point q (pos 0)) k p b.0 b.1

  first_bound : (z k q : ℤ) → q ≡ int_div_euclid z k → ((k *ℤ int_div_euclid z k) ≤ℤ z) → pos 0 ≤ℤ (z -ℤ k *ℤ q)
  first_bound z k q e h = subst (λ (y : ℤ). pos 0 ≤ℤ (z -ℤ k *ℤ y)) (sym e) (omega (arith, ints))

  second_bound : (z k q : ℤ) → q ≡ int_div_euclid z k → z <ℤ (k *ℤ int_div_euclid z k +ℤ k) → pos 0 ≤ℤ (k *ℤ q +ℤ (k -ℤ pos 1) -ℤ z)
  second_bound z k q e h = subst (λ (y : ℤ). pos 0 ≤ℤ (k *ℤ y +ℤ (k -ℤ pos 1) -ℤ z)) (sym e) (omega (arith, ints))

  third_bound : (c q d : ℤ) → q ≡ d → c ≤ℤ d → pos 0 ≤ℤ (q -ℤ c)
  third_bound c q d e h = omega (arith, ints)

  fourth_bound : (c q d : ℤ) → q ≡ d → d ≤ℤ c → pos 0 ≤ℤ (c -ℤ q)
  fourth_bound c q d e h = omega (arith, ints)

  -- and where it is the quotient, and the form lies in the interval, they hold
  pub rows_of_quotient : (q : ℕ) (form : Linear) (k : ℤ) (i : Interval) → pos 0 <ℤ k → IsIn (at form point) i → get_or point q (pos 0) ≡ int_div_euclid (at form point) k → not_below_zero point (division_rows q form k i) ≡ true
  rows_of_quotient q form k i p x e =
      let b = bounds_again (at form point) k p in
      and_true (row_to (minus form (term k q (pos 0))) _ (first_row q form k) (first_bound _ k _ e b.0))
      (and_true (row_to (minus (term k q (k -ℤ pos 1)) form) _ (second_row q form k) (second_bound _ k _ e b.1))
      (and_true (row_to (term (pos 1) q (neg_ℤ (int_div_euclid i.low k))) _ (third_row q (int_div_euclid i.low k)) (third_bound _ _ _ e (quotient_up_by i.low (at form point) k p x.above)))
      (and_true (row_to (term (negsuc 0) q (int_div_euclid i.high k)) _ (fourth_row q (int_div_euclid i.high k)) (fourth_bound _ _ _ e (quotient_up_by (at form point) i.high k p x.below))) refl)))

  pub parts_of : (f g : List Linear) → not_below_zero point (f ++ g) ≡ true → (not_below_zero point f ≡ true) × (not_below_zero point g ≡ true)
  parts_of f g h = both {a = not_below_zero point f} {b = not_below_zero point g} (sym (list_all-append (λ form. int_le (pos 0) (at form point)) f g) ∙ h)

  pub of_parts : (f g : List Linear) → not_below_zero point f ≡ true → not_below_zero point g ≡ true → not_below_zero point (f ++ g) ≡ true
  of_parts f g a b = list_all-append (λ form. int_le (pos 0) (at form point)) f g ∙ and_true a b

  chosen_rows : (t : Bool) (f g : List Linear) (P Q : Type 0) → not_below_zero point (if t then f else g) ≡ true → (not_below_zero point f ≡ true → P) → (not_below_zero point g ≡ true → Q) → Chosen t P Q
  chosen_rows true f g P Q h a b = a h
  chosen_rows false f g P Q h a b = b h

  rows_chosen : (t : Bool) (f g : List Linear) (P Q : Type 0) → Chosen t P Q → (P → not_below_zero point f ≡ true) → (Q → not_below_zero point g ≡ true) → not_below_zero point (if t then f else g) ≡ true
  rows_chosen true f g P Q h a b = a h
  rows_chosen false f g P Q h a b = b h

module _ (limit : ℕ → ℕ) (point : List ℤ) (fields : List Formed) (e : Environment) (r : Represents point fields e) where
  -- where the rows of a number's divisions hold, its division variables are the quotients
  pub solves_number : (n : ℕ) (x : Tree) → IsNumeric x → not_below_zero point (divisions limit fields n x) ≡ true → Solves point n x e
  solves_number n (Number k) h s = tt
  solves_number n (Field f) h s = tt
  solves_number n (First f) h s = tt
  solves_number n (Last f) h s = tt
  solves_number n (Size f) h s = tt
  solves_number n Total h s = tt
  solves_number n (Binary op.Add a b) h s = let p = parts_of point (divisions limit fields n a) (divisions limit fields (n + divisions_in a) b) s in (solves_number n a h.0 p.0, solves_number (n + divisions_in a) b h.1 p.1)
  solves_number n (Binary op.Sub a b) h s = let p = parts_of point (divisions limit fields n a) (divisions limit fields (n + divisions_in a) b) s in (solves_number n a h.0 p.0, solves_number (n + divisions_in a) b h.1 p.1)
  solves_number n (Binary op.Mul a b) h s = chosen_rows point (is_static a) (divisions limit fields n b) (divisions limit fields n a) (Solves point n b e) (Solves point n a e) s (λ t. solves_number n b h.1 t) (λ t. solves_number n a h.0 t)
  solves_number n (Binary op.Div a b) h s =
      let p = parts_of point (divisions limit fields n a) (division_rows (n + divisions_in a) (linear fields n a) (static_value b) (interval_of limit a)) s in
      let inner = solves_number n a h.0 p.0 in
      (inner, quotient_of_rows point (n + divisions_in a) (linear fields n a) (static_value b) (interval_of limit a) h.2 p.1 ∙ ap (λ (z : ℤ). int_div_euclid z (static_value b)) (linear_value point fields e r n a h.0 inner))
  solves_number n (Binary op.Mod a b) h s =
      let p = parts_of point (divisions limit fields n a) (division_rows (n + divisions_in a) (linear fields n a) (static_value b) (interval_of limit a)) s in
      let inner = solves_number n a h.0 p.0 in
      (inner, quotient_of_rows point (n + divisions_in a) (linear fields n a) (static_value b) (interval_of limit a) h.2 p.1 ∙ ap (λ (z : ℤ). int_div_euclid z (static_value b)) (linear_value point fields e r n a h.0 inner))
  solves_number n (Truth t) h s = absurd h
  solves_number n (Neg a) h s = solves_number n a h s
  solves_number n (Not a) h s = absurd h
  solves_number n (Binary op.And a b) h s = absurd h
  solves_number n (Binary op.Or a b) h s = absurd h
  solves_number n (Binary op.Equal a b) h s = absurd h
  solves_number n (Binary op.NotEqual a b) h s = absurd h
  solves_number n (Binary op.Less a b) h s = absurd h
  solves_number n (Binary op.LessEqual a b) h s = absurd h
  solves_number n (Binary op.Greater a b) h s = absurd h
  solves_number n (Binary op.GreaterEqual a b) h s = absurd h

  divided : (n q : ℕ) (a : Tree) (k : ℤ) → pos 0 <ℤ k → IsNumeric a → Solves point n a e → IsIn (value_of a e) (interval_of limit a) → get_or point q (pos 0) ≡ int_div_euclid (value_of a e) k → not_below_zero point (division_rows q (linear fields n a) k (interval_of limit a)) ≡ true
  divided n q a k p h s x e1 =
      let same = linear_value point fields e r n a h s in
      rows_of_quotient point q (linear fields n a) k (interval_of limit a) p (subst (λ (z : ℤ). IsIn z (interval_of limit a)) (sym same) x) (e1 ∙ ap (λ (z : ℤ). int_div_euclid z k) (sym same))

  -- and where they are the quotients, and the expression is narrow, the rows hold
  pub rows_of_number : StaysWithin limit e → (n : ℕ) (x : Tree) → IsNumeric x → IsNarrow limit x → Solves point n x e → not_below_zero point (divisions limit fields n x) ≡ true
  rows_of_number w n (Number k) h c s = refl
  rows_of_number w n (Field f) h c s = refl
  rows_of_number w n (First f) h c s = refl
  rows_of_number w n (Last f) h c s = refl
  rows_of_number w n (Size f) h c s = refl
  rows_of_number w n Total h c s = refl
  rows_of_number w n (Binary op.Add a b) h c s = of_parts point (divisions limit fields n a) (divisions limit fields (n + divisions_in a) b) (rows_of_number w n a h.0 c.2 s.0) (rows_of_number w (n + divisions_in a) b h.1 c.3 s.1)
  rows_of_number w n (Binary op.Sub a b) h c s = of_parts point (divisions limit fields n a) (divisions limit fields (n + divisions_in a) b) (rows_of_number w n a h.0 c.2 s.0) (rows_of_number w (n + divisions_in a) b h.1 c.3 s.1)
  rows_of_number w n (Binary op.Mul a b) h c s = rows_chosen point (is_static a) (divisions limit fields n b) (divisions limit fields n a) (Solves point n b e) (Solves point n a e) s (λ t. rows_of_number w n b h.1 c.3 t) (λ t. rows_of_number w n a h.0 c.2 t)
  rows_of_number w n (Binary op.Div a b) h c s =
      of_parts point (divisions limit fields n a) (division_rows (n + divisions_in a) (linear fields n a) (static_value b) (interval_of limit a)) (rows_of_number w n a h.0 c.2 s.0)
      (divided n (n + divisions_in a) a (static_value b) h.2 h.0 s.0 (value_in limit e w a c.2) s.1)
  rows_of_number w n (Binary op.Mod a b) h c s =
      of_parts point (divisions limit fields n a) (division_rows (n + divisions_in a) (linear fields n a) (static_value b) (interval_of limit a)) (rows_of_number w n a h.0 c.2 s.0)
      (divided n (n + divisions_in a) a (static_value b) h.2 h.0 s.0 (value_in limit e w a c.2) s.1)
  rows_of_number w n (Truth t) h c s = absurd h
  rows_of_number w n (Neg a) h c s = rows_of_number w n a h c.1 s
  rows_of_number w n (Not a) h c s = absurd h
  rows_of_number w n (Binary op.And a b) h c s = absurd h
  rows_of_number w n (Binary op.Or a b) h c s = absurd h
  rows_of_number w n (Binary op.Equal a b) h c s = absurd h
  rows_of_number w n (Binary op.NotEqual a b) h c s = absurd h
  rows_of_number w n (Binary op.Less a b) h c s = absurd h
  rows_of_number w n (Binary op.LessEqual a b) h c s = absurd h
  rows_of_number w n (Binary op.Greater a b) h c s = absurd h
  rows_of_number w n (Binary op.GreaterEqual a b) h c s = absurd h
