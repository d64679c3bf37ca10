-- At a point that solves a condition's divisions, its form is met where the condition is true.
use Rattle.std.proofs.Common.{◌≡◌, refl, sym, ap, ◌∙◌, ℕ, zero, suc, ◌≤◌, ◌+◌, arith, List, [], ◌∷◌, Bool, true, false, not, ◌&&◌, ◌||◌, if◌then◌else◌, ℤ, pos, ◌-ℤ◌, ◌<ℤ◌, ◌≤ℤ◌, int_le, int_lt, Option, Some, None}
use Rattle.std.specs.Ordering.{int_eq}
use Rattle.std.proofs.lemmas.Int.{ints, by_lt_z}
use Rattle.std.proofs.lemmas.Bool.Decides.{Decides-int_eq}
use Rattle.rx_forms.proofs.Tests.{both, and_true}
use Rattle.rx_types.specs.declared.expr.Operator.TheVariants as op
use Rattle.rx_types.specs.Tree.{Tree, Number, Truth, Field, First, Last, Size, Total, Neg, Not, Binary}
use Rattle.rx_types.specs.Environment.{Environment, place_of}
use Rattle.rx_types.specs.Value.{value_of, truth_value, is_one}
use Rattle.rx_forms.specs.declared.linear.Linear.{Linear}
use Rattle.rx_forms.specs.declared.linear.Form.{Form, AtLeast, All, Any}
use Rattle.rx_forms.specs.declared.linear.Form.TheVariants.{rolls-AtLeast, rolls-All, rolls-Any}
use Rattle.rx_forms.specs.declared.linear.Form.TheOpen.{Form-F}
use Rattle.rx_forms.specs.declared.linear.Form.TheFolds.{fold-roll-Form}
use Rattle.rx_forms.specs.Linear.{at, constant, minus, less_one, meets, meets_step, at_least, above, equal, unequal}
use Rattle.rx_forms.specs.Normal.{Formed, formed_of, linear, divisions_in, condition, agree, joined, settled, comparison, compared, truth_in, IsNumeric, IsCondition, IsCompared}
use Rattle.rx_forms.specs.Points.{Represents, Solves}
use Rattle.rx_forms.proofs.Sums.{at_minus, at_constant, at_less_one}
use Rattle.rx_forms.proofs.Quotients.{from_le, to_le}
use Rattle.rx_forms.proofs.Values.{linear_value}

-- ---- what `meets` is at each kind of form

pub meets_at_least : (f : Linear) (point : List ℤ) → meets (AtLeast f) point ≡ int_le (pos 0) (at f point)
unfolding meets
meets_at_least f point = ap (λ (p : Form). meets p point) (sym (rolls-AtLeast f)) ∙ ap (λ (g : List ℤ → Bool). g point) (fold-roll-Form (List ℤ → Bool) meets_step (Form-F.AtLeast f))

pub meets_pair : (a b : Form) (point : List ℤ) → meets (All (a ∷ b ∷ [])) point ≡ (meets a point && (meets b point && true))
unfolding meets
meets_pair a b point = ap (λ (p : Form). meets p point) (sym (rolls-All (a ∷ b ∷ []))) ∙ ap (λ (g : List ℤ → Bool). g point) (fold-roll-Form (List ℤ → Bool) meets_step (Form-F.All (a ∷ b ∷ [])))

pub meets_either : (a b : Form) (point : List ℤ) → meets (Any (a ∷ b ∷ [])) point ≡ (meets a point || (meets b point || false))
unfolding meets
meets_either a b point = ap (λ (p : Form). meets p point) (sym (rolls-Any (a ∷ b ∷ []))) ∙ ap (λ (g : List ℤ → Bool). g point) (fold-roll-Form (List ℤ → Bool) meets_step (Form-F.Any (a ∷ b ∷ [])))

pub meets_none : (point : List ℤ) → meets (All []) point ≡ true
unfolding meets
meets_none point = ap (λ (p : Form). meets p point) (sym (rolls-All [])) ∙ ap (λ (g : List ℤ → Bool). g point) (fold-roll-Form (List ℤ → Bool) meets_step (Form-F.All []))

meets_nothing : (point : List ℤ) → meets (Any []) point ≡ false
unfolding meets
meets_nothing point = ap (λ (p : Form). meets p point) (sym (rolls-Any [])) ∙ ap (λ (g : List ℤ → Bool). g point) (fold-roll-Form (List ℤ → Bool) meets_step (Form-F.Any []))

-- ---- comparisons

same_test : (a b : Bool) → (a ≡ true → b ≡ true) → (b ≡ true → a ≡ true) → a ≡ b
same_test true b f g = sym (f refl)
same_test false true f g = g refl
same_test false false f g = refl

from_lt : (x y : ℤ) → int_lt x y ≡ true → x <ℤ y
from_lt x y e = omega (arith, ints, e)

to_lt : (x y : ℤ) → x <ℤ y → int_lt x y ≡ true
to_lt x y h = grind (arith, ints, h)

le_less : (x y : ℤ) → int_le (pos 0) (y -ℤ x -ℤ pos 1) ≡ int_lt x y
le_less x y = same_test _ _ (λ e. let h = from_le (pos 0) (y -ℤ x -ℤ pos 1) e in to_lt x y (omega (arith, ints))) (λ e. let h = from_lt x y e in to_le (pos 0) (y -ℤ x -ℤ pos 1) (omega (arith, ints)))

le_not_less : (x y : ℤ) → int_le (pos 0) (x -ℤ y) ≡ not (int_lt x y)
le_not_less x y = by_lt_z x y
    (λ l. absurd_le (int_le (pos 0) (x -ℤ y)) (λ e. let h = from_le (pos 0) (x -ℤ y) e in absurd (omega (arith, ints))) ∙ ap not (sym (to_lt x y l)))
    (λ g. to_le (pos 0) (x -ℤ y) (omega (arith, ints)) ∙ ap not (sym (absurd_le (int_lt x y) (λ e. let h = from_lt x y e in absurd (omega (arith, ints))))))
  where
    absurd_le : (t : Bool) → (t ≡ true → ⊥) → t ≡ false
    absurd_le true n = absurd (n refl)
    absurd_le false n = refl

equal_test : (x y : ℤ) → x ≡ y → int_eq x y ≡ true
equal_test x y e = ap (λ (z : ℤ). int_eq x z) (sym e) ∙ (Decides-int_eq x x).1 refl

le_both : (x y : ℤ) → (int_le (pos 0) (x -ℤ y) && (int_le (pos 0) (y -ℤ x) && true)) ≡ int_eq x y
le_both x y = same_test _ _
    (λ t. let p = both {a = int_le (pos 0) (x -ℤ y)} t in let q = both {a = int_le (pos 0) (y -ℤ x)} p.1 in
    let h = from_le (pos 0) (x -ℤ y) p.0 in let k = from_le (pos 0) (y -ℤ x) q.0 in (Decides-int_eq x y).1 (omega (arith, ints)))
    (λ t. let e = (Decides-int_eq x y).0 t in and_true (to_le (pos 0) (x -ℤ y) (omega (arith, ints, e))) (and_true (to_le (pos 0) (y -ℤ x) (omega (arith, ints, e))) refl))

less_either : (x y : ℤ) → (int_le (pos 0) (y -ℤ x -ℤ pos 1) || (int_le (pos 0) (x -ℤ y -ℤ pos 1) || false)) ≡ not (int_eq x y)
less_either x y = join _ _ _ _ (flip y x) (flip x y) ∙ ap not (le_both x y)
  where
    twice : (t : Bool) → t ≡ not (not t)
    twice true = refl
    twice false = refl

    flip : (z w : ℤ) → int_le (pos 0) (z -ℤ w -ℤ pos 1) ≡ not (int_le (pos 0) (w -ℤ z))
    flip z w = le_less w z ∙ twice (int_lt w z) ∙ ap not (sym (le_not_less w z))

    join : (a b c d : Bool) → a ≡ not c → b ≡ not d → (a || (b || false)) ≡ not (c && (d && true))
    join a b true true p q = cc
    join a b true false p q = cc
    join a b false true p q = cc
    join a b false false p q = cc

module _ (point : List ℤ) where
  pub meets_above : (f g : Linear) → meets (above f g) point ≡ int_le (pos 0) (at f point -ℤ at g point -ℤ pos 1)
  meets_above f g =
      meets_at_least (less_one (minus f g)) point
      ∙ ap (λ (z : ℤ). int_le (pos 0) z) (at_less_one (minus f g) point ∙ ap (λ (z : ℤ). z -ℤ pos 1) (at_minus f g point))

  meets_not_below : (f g : Linear) → meets (at_least f g) point ≡ int_le (pos 0) (at f point -ℤ at g point)
  meets_not_below f g = meets_at_least (minus f g) point ∙ ap (λ (z : ℤ). int_le (pos 0) z) (at_minus f g point)

  pub meets_equal : (f g : Linear) → meets (equal f g) point ≡ int_eq (at f point) (at g point)
  meets_equal f g =
      meets_pair (at_least f g) (at_least g f) point
      ∙ ap (λ (t : Bool). t && (meets (at_least g f) point && true)) (meets_not_below f g)
      ∙ ap (λ (t : Bool). int_le (pos 0) (at f point -ℤ at g point) && (t && true)) (meets_not_below g f)
      ∙ le_both (at f point) (at g point)

  meets_unequal : (f g : Linear) → meets (unequal f g) point ≡ not (int_eq (at f point) (at g point))
  meets_unequal f g =
      meets_either (above g f) (above f g) point
      ∙ ap (λ (t : Bool). t || (meets (above f g) point || false)) (meets_above g f)
      ∙ ap (λ (t : Bool). int_le (pos 0) (at g point -ℤ at f point -ℤ pos 1) || (t || false)) (meets_above f g)
      ∙ less_either (at f point) (at g point)

-- ---- truth values

one_back : (b : Bool) → is_one (truth_value b) ≡ b
one_back true = refl
one_back false = refl

agree_not : (w b : Bool) → agree (not w) b ≡ agree w (is_one (truth_value (not b)))
agree_not true true = refl
agree_not true false = refl
agree_not false true = refl
agree_not false false = refl

abbrev both_of : Bool → Bool → Bool
both_of x y = x && (y && true)

abbrev one_of : Bool → Bool → Bool
one_of x y = x || (y || false)

truth_meets : (point : List ℤ) (w b : Bool) → meets (settled (agree w b)) point ≡ agree w (is_one (truth_value b))
truth_meets point true true = meets_none point
truth_meets point true false = meets_nothing point
truth_meets point false true = meets_nothing point
truth_meets point false false = meets_none point

and_meets : (point : List ℤ) (w : Bool) (f g : Form) (a b : Bool) → meets f point ≡ agree w a → meets g point ≡ agree w b → meets (joined w f g) point ≡ agree w (is_one (truth_value (a && b)))
and_meets point true f g a b p q = meets_pair f g point ∙ ap (λ (t : Bool). both_of t (meets g point)) p ∙ ap (λ (t : Bool). both_of a t) q ∙ table a b
  where
    table : (a b : Bool) → both_of a b ≡ is_one (truth_value (a && b))
    table true true = refl
    table true false = refl
    table false b = refl
and_meets point false f g a b p q = meets_either f g point ∙ ap (λ (t : Bool). one_of t (meets g point)) p ∙ ap (λ (t : Bool). one_of (not a) t) q ∙ table a b
  where
    table : (a b : Bool) → one_of (not a) (not b) ≡ not (is_one (truth_value (a && b)))
    table true true = refl
    table true false = refl
    table false b = refl

or_meets : (point : List ℤ) (w : Bool) (f g : Form) (a b : Bool) → meets f point ≡ agree w a → meets g point ≡ agree w b → meets (joined (not w) f g) point ≡ agree w (is_one (truth_value (a || b)))
or_meets point true f g a b p q = meets_either f g point ∙ ap (λ (t : Bool). one_of t (meets g point)) p ∙ ap (λ (t : Bool). one_of a t) q ∙ table a b
  where
    table : (a b : Bool) → one_of a b ≡ is_one (truth_value (a || b))
    table true b = refl
    table false true = refl
    table false false = refl
or_meets point false f g a b p q = meets_pair f g point ∙ ap (λ (t : Bool). both_of t (meets g point)) p ∙ ap (λ (t : Bool). both_of (not a) t) q ∙ table a b
  where
    table : (a b : Bool) → both_of (not a) (not b) ≡ not (is_one (truth_value (a || b)))
    table true b = refl
    table false true = refl
    table false false = refl

less_meets : (point : List ℤ) (w : Bool) (f g : Linear) (x y : ℤ) → at f point ≡ x → at g point ≡ y → meets (if w then above g f else at_least f g) point ≡ agree w (is_one (truth_value (int_lt x y)))
less_meets point true f g x y p q = meets_above point g f ∙ le_less (at f point) (at g point) ∙ ap (λ (z : ℤ). int_lt z (at g point)) p ∙ ap (λ (z : ℤ). int_lt x z) q ∙ sym (one_back (int_lt x y))
less_meets point false f g x y p q = meets_not_below point f g ∙ le_not_less (at f point) (at g point) ∙ ap not (ap (λ (z : ℤ). int_lt z (at g point)) p ∙ ap (λ (z : ℤ). int_lt x z) q ∙ sym (one_back (int_lt x y)))

equal_meets : (point : List ℤ) (w : Bool) (f g : Linear) (x y : ℤ) → at f point ≡ x → at g point ≡ y → meets (if w then equal f g else unequal f g) point ≡ agree w (is_one (truth_value (int_eq x y)))
equal_meets point true f g x y p q = meets_equal point f g ∙ ap (λ (z : ℤ). int_eq z (at g point)) p ∙ ap (λ (z : ℤ). int_eq x z) q ∙ sym (one_back (int_eq x y))
equal_meets point false f g x y p q = meets_unequal point f g ∙ ap not (ap (λ (z : ℤ). int_eq z (at g point)) p ∙ ap (λ (z : ℤ). int_eq x z) q ∙ sym (one_back (int_eq x y)))

turned : (w t u : Bool) → u ≡ not t → agree (not w) (is_one (truth_value t)) ≡ agree w (is_one (truth_value u))
turned true true u e = ap (λ (b : Bool). is_one (truth_value b)) (sym e)
turned true false u e = ap (λ (b : Bool). is_one (truth_value b)) (sym e)
turned false true u e = ap (λ (b : Bool). not (is_one (truth_value b))) (sym e)
turned false false u e = ap (λ (b : Bool). not (is_one (truth_value b))) (sym e)

not_above : (x y : ℤ) → int_le x y ≡ not (int_lt y x)
not_above x y = same_test _ _ (λ e. let h = from_le x y e in not_so (int_lt y x) (λ f. let k = from_lt y x f in absurd (omega (arith, ints)))) (λ e. to_le x y (not_less (int_lt y x) refl e))
  where
    not_so : (t : Bool) → (t ≡ true → ⊥) → not t ≡ true
    not_so true n = absurd (n refl)
    not_so false n = refl

    not_less : (t : Bool) → int_lt y x ≡ t → not t ≡ true → x ≤ℤ y
    not_less true e h = absurd (cc)
    not_less false e h = omega (arith, ints, e)

less_equal_meets : (point : List ℤ) (w : Bool) (f g : Linear) (x y : ℤ) → at f point ≡ x → at g point ≡ y → meets (if w then at_least g f else above f g) point ≡ agree w (is_one (truth_value (int_le x y)))
less_equal_meets point true f g x y p q = less_meets point false g f y x q p ∙ turned true (int_lt y x) (int_le x y) (not_above x y)
less_equal_meets point false f g x y p q = less_meets point true g f y x q p ∙ turned false (int_lt y x) (int_le x y) (not_above x y)

unequal_meets : (point : List ℤ) (w : Bool) (f g : Linear) (x y : ℤ) → at f point ≡ x → at g point ≡ y → meets (if w then unequal f g else equal f g) point ≡ agree w (is_one (truth_value (not (int_eq x y))))
unequal_meets point true f g x y p q = equal_meets point false f g x y p q ∙ turned true (int_eq x y) (not (int_eq x y)) refl
unequal_meets point false f g x y p q = equal_meets point true f g x y p q ∙ turned false (int_eq x y) (not (int_eq x y)) refl

-- a field whose number is at most 1
field_meets : (point : List ℤ) (w : Bool) (f : Linear) (n : ℕ) → at f point ≡ pos n → n ≤ 1 → meets (equal f (constant (truth_value w))) point ≡ agree w (is_one (pos n))
field_meets point w f n p h = meets_equal point f (constant (truth_value w)) ∙ ap (λ (z : ℤ). int_eq z (at (constant (truth_value w)) point)) p ∙ ap (λ (z : ℤ). int_eq (pos n) z) (at_constant (truth_value w) point) ∙ table w n h
  where
    table : (w : Bool) (n : ℕ) → n ≤ 1 → int_eq (pos n) (truth_value w) ≡ agree w (is_one (pos n))
    table true n h = refl
    table false zero h = refl
    table false (suc zero) h = refl
    table false (suc (suc n)) h = absurd (omega arith)

-- ---- comparisons with a spelled truth value

spelled : (x : Tree) (t : Bool) (e : Environment) → truth_in x ≡ Some t → value_of x e ≡ truth_value t
spelled (Truth b) t e h = ap truth_value (some_same b t h)
  where
    some_same : (b t : Bool) → Some b ≡ Some t → b ≡ t
    some_same b t h = cc
spelled (Number k) t e h = absurd (cc)
spelled (Field f) t e h = absurd (cc)
spelled (First f) t e h = absurd (cc)
spelled (Last f) t e h = absurd (cc)
spelled (Size f) t e h = absurd (cc)
spelled Total t e h = absurd (cc)
spelled (Neg a) t e h = absurd (cc)
spelled (Not a) t e h = absurd (cc)
spelled (Binary op.Add a b) t e h = absurd (cc)
spelled (Binary op.Sub a b) t e h = absurd (cc)
spelled (Binary op.Mul a b) t e h = absurd (cc)
spelled (Binary op.Div a b) t e h = absurd (cc)
spelled (Binary op.Mod a b) t e h = absurd (cc)
spelled (Binary op.And a b) t e h = absurd (cc)
spelled (Binary op.Or a b) t e h = absurd (cc)
spelled (Binary op.Equal a b) t e h = absurd (cc)
spelled (Binary op.NotEqual a b) t e h = absurd (cc)
spelled (Binary op.Less a b) t e h = absurd (cc)
spelled (Binary op.LessEqual a b) t e h = absurd (cc)
spelled (Binary op.Greater a b) t e h = absurd (cc)
spelled (Binary op.GreaterEqual a b) t e h = absurd (cc)

abbrev IsTruthValue : ℤ → Type 0
IsTruthValue z = z ≡ truth_value (is_one z)

is_truth : (b : Bool) → IsTruthValue (truth_value b)
is_truth true = refl
is_truth false = refl

small_truth : (n : ℕ) → n ≤ 1 → IsTruthValue (pos n)
small_truth zero h = refl
small_truth (suc zero) h = refl
small_truth (suc (suc n)) h = absurd (omega arith)

agree_chain : (w t u : Bool) → agree (agree w t) u ≡ agree w (is_one (truth_value (int_eq (truth_value t) (truth_value u))))
agree_chain true true true = refl
agree_chain true true false = refl
agree_chain true false true = refl
agree_chain true false false = refl
agree_chain false true true = refl
agree_chain false true false = refl
agree_chain false false true = refl
agree_chain false false false = refl

agree_chain_back : (w t u : Bool) → agree (agree w t) u ≡ agree w (is_one (truth_value (int_eq (truth_value u) (truth_value t))))
agree_chain_back true true true = refl
agree_chain_back true true false = refl
agree_chain_back true false true = refl
agree_chain_back true false false = refl
agree_chain_back false true true = refl
agree_chain_back false true false = refl
agree_chain_back false false true = refl
agree_chain_back false false false = refl

-- a side's form, wanted or not, is met as its truth value says
abbrev MeetsAs : List ℤ → (Bool → Form) → ℤ → Type 0
MeetsAs point form z = ((w : Bool) → meets (form w) point ≡ agree w (is_one z)) × IsTruthValue z

compared_meets : (point : List ℤ) (w : Bool) (p q : Option Bool) (left right : Bool → Form) (numbers : Form) (x y : ℤ) (A B N : Type 0)
    → ((t : Bool) → p ≡ Some t → x ≡ truth_value t) → ((t : Bool) → q ≡ Some t → y ≡ truth_value t)
    → IsCompared p q A B N → (A → MeetsAs point left x) → (B → MeetsAs point right y) → (N → meets numbers point ≡ agree w (is_one (truth_value (int_eq x y))))
    → meets (compared p q (λ t. left (agree w t)) (λ t. right (agree w t)) numbers) point ≡ agree w (is_one (truth_value (int_eq x y)))
compared_meets point w (Some t) q left right numbers x y A B N ex ey h a b n =
    let m = b h in
    m.0 (agree w t) ∙ agree_chain w t (is_one y) ∙ ap (λ (z : ℤ). agree w (is_one (truth_value (int_eq z (truth_value (is_one y)))))) (sym (ex t refl)) ∙ ap (λ (z : ℤ). agree w (is_one (truth_value (int_eq x z)))) (sym m.1)
compared_meets point w None (Some t) left right numbers x y A B N ex ey h a b n =
    let m = a h in
    m.0 (agree w t) ∙ agree_chain_back w t (is_one x) ∙ ap (λ (z : ℤ). agree w (is_one (truth_value (int_eq z (truth_value t))))) (sym m.1) ∙ ap (λ (z : ℤ). agree w (is_one (truth_value (int_eq x z)))) (sym (ey t refl))
compared_meets point w None None left right numbers x y A B N ex ey h a b n = n h

module _ (limit : ℕ → ℕ) (point : List ℤ) (fields : List Formed) (e : Environment) (r : Represents point fields e) (numbers : (f : ℕ) → (place_of f e.fields).number ≤ limit f) where
  at_most_one : (f : ℕ) → limit f ≡ 1 → (place_of f e.fields).number ≤ 1
  at_most_one f h = let n = numbers f in omega arith

  condition_is_truth : (x : Tree) → IsCondition limit x → IsTruthValue (value_of x e)
  condition_is_truth (Truth b) h = is_truth b
  condition_is_truth (Field f) h = small_truth (place_of f e.fields).number (at_most_one f h)
  condition_is_truth (Neg a) h = absurd h
  condition_is_truth (Not a) h = is_truth (not (is_one (value_of a e)))
  condition_is_truth (Binary op.And a b) h = is_truth (is_one (value_of a e) && is_one (value_of b e))
  condition_is_truth (Binary op.Or a b) h = is_truth (is_one (value_of a e) || is_one (value_of b e))
  condition_is_truth (Binary op.Equal a b) h = is_truth (int_eq (value_of a e) (value_of b e))
  condition_is_truth (Binary op.NotEqual a b) h = is_truth (not (int_eq (value_of a e) (value_of b e)))
  condition_is_truth (Binary op.Less a b) h = is_truth (int_lt (value_of a e) (value_of b e))
  condition_is_truth (Binary op.LessEqual a b) h = is_truth (int_le (value_of a e) (value_of b e))
  condition_is_truth (Binary op.Greater a b) h = is_truth (int_lt (value_of b e) (value_of a e))
  condition_is_truth (Binary op.GreaterEqual a b) h = is_truth (int_le (value_of b e) (value_of a e))
  condition_is_truth (Number k) h = absurd h
  condition_is_truth (First f) h = absurd h
  condition_is_truth (Last f) h = absurd h
  condition_is_truth (Size f) h = absurd h
  condition_is_truth Total h = absurd h
  condition_is_truth (Binary op.Add a b) h = absurd h
  condition_is_truth (Binary op.Sub a b) h = absurd h
  condition_is_truth (Binary op.Mul a b) h = absurd h
  condition_is_truth (Binary op.Div a b) h = absurd h
  condition_is_truth (Binary op.Mod a b) h = absurd h

  -- the form of a condition, or of its negation, is met exactly where the condition is true, or false
  pub condition_meets : (n : ℕ) (w : Bool) (x : Tree) → IsCondition limit x → Solves point n x e → meets (condition fields n w x) point ≡ agree w (is_one (value_of x e))
  condition_meets n w (Truth b) h s = truth_meets point w b
  condition_meets n w (Field f) h s = field_meets point w (formed_of f fields).number (place_of f e.fields).number (r.places f).number (at_most_one f h)
  condition_meets n w (Neg a) h s = absurd h
  condition_meets n w (Not a) h s = condition_meets n (not w) a h s ∙ agree_not w (is_one (value_of a e))
  condition_meets n w (Binary op.And a b) h s = and_meets point w (condition fields n w a) (condition fields (n + divisions_in a) w b) (is_one (value_of a e)) (is_one (value_of b e)) (condition_meets n w a h.0 s.0) (condition_meets (n + divisions_in a) w b h.1 s.1)
  condition_meets n w (Binary op.Or a b) h s = or_meets point w (condition fields n w a) (condition fields (n + divisions_in a) w b) (is_one (value_of a e)) (is_one (value_of b e)) (condition_meets n w a h.0 s.0) (condition_meets (n + divisions_in a) w b h.1 s.1)
  condition_meets n w (Binary op.Equal a b) h s =
      compared_meets point w (truth_in a) (truth_in b) (λ t. condition fields n t a) (λ t. condition fields (n + divisions_in a) t b) _ (value_of a e) (value_of b e) (IsCondition limit a) (IsCondition limit b) (IsNumeric a × IsNumeric b)
      (λ t i. spelled a t e i) (λ t i. spelled b t e i) h
      (λ c. ((λ t. condition_meets n t a c s.0), condition_is_truth a c))
      (λ c. ((λ t. condition_meets (n + divisions_in a) t b c s.1), condition_is_truth b c))
      (λ c. equal_meets point w (linear fields n a) (linear fields (n + divisions_in a) b) (value_of a e) (value_of b e) (linear_value point fields e r n a c.0 s.0) (linear_value point fields e r (n + divisions_in a) b c.1 s.1))
  condition_meets n w (Binary op.NotEqual a b) h s =
      compared_meets point (not w) (truth_in a) (truth_in b) (λ t. condition fields n t a) (λ t. condition fields (n + divisions_in a) t b) (comparison op.NotEqual w (linear fields n a) (linear fields (n + divisions_in a) b)) (value_of a e) (value_of b e) (IsCondition limit a) (IsCondition limit b) (IsNumeric a × IsNumeric b)
      (λ t i. spelled a t e i) (λ t i. spelled b t e i) h
      (λ c. ((λ t. condition_meets n t a c s.0), condition_is_truth a c))
      (λ c. ((λ t. condition_meets (n + divisions_in a) t b c s.1), condition_is_truth b c))
      (λ c. unequal_meets point w (linear fields n a) (linear fields (n + divisions_in a) b) (value_of a e) (value_of b e) (linear_value point fields e r n a c.0 s.0) (linear_value point fields e r (n + divisions_in a) b c.1 s.1)
      ∙ sym (turned w (int_eq (value_of a e) (value_of b e)) (not (int_eq (value_of a e) (value_of b e))) refl))
      ∙ turned w (int_eq (value_of a e) (value_of b e)) (not (int_eq (value_of a e) (value_of b e))) refl
  condition_meets n w (Binary op.Less a b) h s = less_meets point w (linear fields n a) (linear fields (n + divisions_in a) b) (value_of a e) (value_of b e) (linear_value point fields e r n a h.0 s.0) (linear_value point fields e r (n + divisions_in a) b h.1 s.1)
  condition_meets n w (Binary op.LessEqual a b) h s = less_equal_meets point w (linear fields n a) (linear fields (n + divisions_in a) b) (value_of a e) (value_of b e) (linear_value point fields e r n a h.0 s.0) (linear_value point fields e r (n + divisions_in a) b h.1 s.1)
  condition_meets n w (Binary op.Greater a b) h s = less_meets point w (linear fields (n + divisions_in a) b) (linear fields n a) (value_of b e) (value_of a e) (linear_value point fields e r (n + divisions_in a) b h.1 s.1) (linear_value point fields e r n a h.0 s.0)
  condition_meets n w (Binary op.GreaterEqual a b) h s = less_equal_meets point w (linear fields (n + divisions_in a) b) (linear fields n a) (value_of b e) (value_of a e) (linear_value point fields e r (n + divisions_in a) b h.1 s.1) (linear_value point fields e r n a h.0 s.0)
  condition_meets n w (Number k) h s = absurd h
  condition_meets n w (First f) h s = absurd h
  condition_meets n w (Last f) h s = absurd h
  condition_meets n w (Size f) h s = absurd h
  condition_meets n w Total h s = absurd h
  condition_meets n w (Binary op.Add a b) h s = absurd h
  condition_meets n w (Binary op.Sub a b) h s = absurd h
  condition_meets n w (Binary op.Mul a b) h s = absurd h
  condition_meets n w (Binary op.Div a b) h s = absurd h
  condition_meets n w (Binary op.Mod a b) h s = absurd h
