-- Static expressions have one value, which is their interval.
use Rattle.std.proofs.Common.{◌≡◌, Bool, true, false, refl, ap, ◌∙◌, arith}
use Rattle.std.specs.Prelude.{ℤ, pos, neg_ℤ, ◌*ℤ◌, ◌&&◌, if◌then◌else◌, ◌-ℤ◌}
use Rattle.std.specs.Ordering.{int_eq}
use Rattle.std.specs.Int.{int_min, int_max, int_rem_euclid}
use Rattle.std.proofs.lemmas.Int.{ints, clamps}
use Rattle.std.proofs.lemmas.Bool.Decides.{Decides-int_eq}
use Rattle.rx_types.specs.declared.expr.Operator.{Operator}
use Rattle.rx_types.specs.declared.expr.Operator.TheVariants as op
use Rattle.rx_types.specs.Laws.{IsStaticEverywhere}
use Rattle.rx_types.specs.Narrow.{interval_of, interval_by, single, around, from_to, negation}
use Rattle.rx_types.specs.Static.{is_arithmetic, is_static, static_value}
use Rattle.rx_types.specs.Tree.{Tree, Number, Truth, Field, First, Last, Size, Total, Neg, Not, Binary}
use Rattle.rx_types.specs.Value.{value_of, combined}

around_same : (z : ℤ) → around z z z z ≡ single z
around_same z =
    let low : int_min (int_min z z) (int_min z z) ≡ z = omega (arith, ints, clamps) in
    let high : int_max (int_max z z) (int_max z z) ≡ z = omega (arith, ints, clamps) in
    ap (λ x. from_to x (int_max (int_max z z) (int_max z z))) low ∙ ap (λ y. from_to z y) high

one_remainder : (t : Bool) (r : ℤ) (k : ℤ) → t ≡ true → (if t then single r else from_to (pos 0) (k -ℤ pos 1)) ≡ single r
one_remainder true r k h = refl
one_remainder false r k h = cc

same_eq : (z : ℤ) → int_eq z z ≡ true
same_eq z = (Decides-int_eq z z).1 refl

-- arithmetic on two single numbers
by_single : (o : Operator) (a b : ℤ) → is_arithmetic o ≡ true → interval_by o (single a) (single b) ≡ single (combined o a b)
by_single op.Add a b h = refl
by_single op.Sub a b h = refl
by_single op.Mul a b h = around_same (a *ℤ b)
by_single op.Div a b h = refl
by_single op.Mod a b h = one_remainder (int_eq a a) (int_rem_euclid a b) b (same_eq a)
by_single op.And a b h = cc
by_single op.Or a b h = cc
by_single op.Equal a b h = cc
by_single op.NotEqual a b h = cc
by_single op.Less a b h = cc
by_single op.LessEqual a b h = cc
by_single op.Greater a b h = cc
by_single op.GreaterEqual a b h = cc

all_three : (a b c : Bool) → (a && b && c) ≡ true → (a ≡ true) × (b ≡ true) × (c ≡ true)
all_three true true true h = (refl, refl, refl)
all_three true true false h = cc
all_three true false c h = cc
all_three false b c h = cc

join : (o : Operator) (a b : Tree) → is_arithmetic o ≡ true → IsStaticEverywhere a → IsStaticEverywhere b → IsStaticEverywhere (Binary o a b)
join o a b h x y =
    record {
      interval = λ limit. ap (λ i. interval_by o i (interval_of limit b)) (x.interval limit) ∙ ap (λ j. interval_by o (single (static_value a)) j) (y.interval limit) ∙ by_single o (static_value a) (static_value b) h;
      value = λ e. ap (λ z. combined o z (value_of b e)) (x.value e) ∙ ap (λ z. combined o (static_value a) z) (y.value e);
    }

pub static_everywhere : (x : Tree) → is_static x ≡ true → IsStaticEverywhere x
static_everywhere (Number n) h = record { interval = λ limit. refl; value = λ e. refl }
static_everywhere (Truth b) h = absurd (cc)
static_everywhere (Field f) h = absurd (cc)
static_everywhere (First f) h = absurd (cc)
static_everywhere (Last f) h = absurd (cc)
static_everywhere (Size f) h = absurd (cc)
static_everywhere Total h = absurd (cc)
static_everywhere (Neg a) h =
    let x = static_everywhere a h in
    record { interval = λ limit. ap (λ i. negation i) (x.interval limit); value = λ e. ap (λ z. neg_ℤ z) (x.value e) }
static_everywhere (Not a) h = absurd (cc)
static_everywhere (Binary o a b) h =
    let both = all_three (is_arithmetic o) (is_static a) (is_static b) h in
    join o a b both.0 (static_everywhere a both.1) (static_everywhere b both.2)
