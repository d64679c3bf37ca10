-- At a point that solves an expression's divisions, its form has its value.
use Rattle.std.proofs.Common.{◌≡◌, refl, sym, ap, ◌∙◌, ℕ, ◌+◌, arith, List, Bool, true, false, ◌||◌, if◌then◌else◌, get_or, ℤ, pos, negsuc, ◌+ℤ◌, ◌-ℤ◌, ◌*ℤ◌, ◌<ℤ◌, neg_ℤ}
use Rattle.std.specs.Int.{int_div_euclid, int_rem_euclid}
use Rattle.std.proofs.lemmas.Int.{ints}
use Rattle.std.proofs.Math.IntN.{*ℤ_comm}
use Rattle.rx_types.specs.declared.expr.Operator.TheVariants as op
use Rattle.rx_types.specs.Tree.{Tree, Number, Truth, Field, First, Last, Size, Total, Neg, Not, Binary}
use Rattle.rx_types.specs.Environment.{Environment}
use Rattle.rx_types.specs.Static.{is_static, static_value}
use Rattle.rx_types.specs.Value.{value_of}
use Rattle.rx_types.proofs.Statics.{static_everywhere}
use Rattle.rx_forms.specs.declared.linear.Linear.{Linear}
use Rattle.rx_forms.specs.Linear.{at, term, times}
use Rattle.rx_forms.specs.Normal.{Formed, formed_of, linear, divisions_in, IsNumeric}
use Rattle.rx_forms.specs.Points.{Represents, Solves, Chosen}
use Rattle.rx_forms.proofs.Sums.{at_plus, at_minus, at_times, at_term, at_variable, at_constant, at_less_one}

pub static_same : (x : Tree) (e : Environment) → is_static x ≡ true → value_of x e ≡ static_value x
static_same x e h = (static_everywhere x h).value e

-- ---- quotients and remainders

-- the remainder is what the quotient leaves
remainder_is : (z k : ℤ) → pos 0 <ℤ k → int_rem_euclid z k ≡ z -ℤ k *ℤ int_div_euclid z k
remainder_is (pos a) (pos k) h = omega (arith, ints)
remainder_is (negsuc a) (pos k) h = omega (arith, ints)
remainder_is z (negsuc k) h = absurd h.lt

pub nothing_more : (z : ℤ) → z +ℤ pos 0 ≡ z
nothing_more z = omega (arith, ints)

less_one_times : (z : ℤ) → negsuc 0 *ℤ z ≡ neg_ℤ z
less_one_times z = omega (arith, ints)

static_side : (a b : Tree) → is_static a ≡ false → (is_static a || is_static b) ≡ true → is_static b ≡ true
static_side a b f h = sym (ap (λ (t : Bool). t || is_static b) f) ∙ h

remainder_step : (a k q x r : ℤ) → a ≡ x → q ≡ int_div_euclid x k → r ≡ x -ℤ k *ℤ int_div_euclid x k → a -ℤ k *ℤ q ≡ r
remainder_step a k q x r ea eq er = ap (λ (z : ℤ). z -ℤ k *ℤ q) ea ∙ ap (λ (z : ℤ). x -ℤ k *ℤ z) eq ∙ sym er

product_value : (point : List ℤ) (e : Environment) (a b : Tree) (f g : Linear) (t : Bool) (P Q : Type 0) → is_static a ≡ t → (is_static a || is_static b) ≡ true → Chosen t P Q → (P → at g point ≡ value_of b e) → (Q → at f point ≡ value_of a e) → at (if t then times (static_value a) g else times (static_value b) f) point ≡ value_of a e *ℤ value_of b e
product_value point e a b f g true P Q q h s right left =
    at_times (static_value a) g point ∙ ap (λ (z : ℤ). static_value a *ℤ z) (right s) ∙ ap (λ (z : ℤ). z *ℤ value_of b e) (sym (static_same a e q))
product_value point e a b f g false P Q q h s right left =
    at_times (static_value b) f point ∙ ap (λ (z : ℤ). static_value b *ℤ z) (left s) ∙ ap (λ (z : ℤ). z *ℤ value_of a e) (sym (static_same b e (static_side a b q h))) ∙ *ℤ_comm (value_of b e) (value_of a e)

module _ (point : List ℤ) (fields : List Formed) (e : Environment) (r : Represents point fields e) where
  pub linear_value : (n : ℕ) (x : Tree) → IsNumeric x → Solves point n x e → at (linear fields n x) point ≡ value_of x e
  linear_value n (Number k) h s = at_constant k point
  linear_value n (Field f) h s = (r.places f).number
  linear_value n (First f) h s = (r.places f).first
  linear_value n (Last f) h s = at_less_one (formed_of f fields).end point ∙ ap (λ (z : ℤ). z -ℤ pos 1) (r.places f).end
  linear_value n (Size f) h s = (r.places f).size
  linear_value n Total h s = let a = at_term (pos 8) 0 (pos 0) point in let t = r.total in omega (arith, ints)
  linear_value n (Neg a) h s = at_times (negsuc 0) (linear fields n a) point ∙ ap (λ (z : ℤ). negsuc 0 *ℤ z) (linear_value n a h s) ∙ less_one_times (value_of a e)
  linear_value n (Binary op.Add a b) h s =
      at_plus (linear fields n a) (linear fields (n + divisions_in a) b) point ∙ ap (λ (z : ℤ). z +ℤ at (linear fields (n + divisions_in a) b) point) (linear_value n a h.0 s.0) ∙ ap (λ (z : ℤ). value_of a e +ℤ z) (linear_value (n + divisions_in a) b h.1 s.1)
  linear_value n (Binary op.Sub a b) h s =
      at_minus (linear fields n a) (linear fields (n + divisions_in a) b) point ∙ ap (λ (z : ℤ). z -ℤ at (linear fields (n + divisions_in a) b) point) (linear_value n a h.0 s.0) ∙ ap (λ (z : ℤ). value_of a e -ℤ z) (linear_value (n + divisions_in a) b h.1 s.1)
  linear_value n (Binary op.Mul a b) h s =
      product_value point e a b (linear fields n a) (linear fields n b) (is_static a) (Solves point n b e) (Solves point n a e) refl h.2 s (λ t. linear_value n b h.1 t) (λ t. linear_value n a h.0 t)
  linear_value n (Binary op.Div a b) h s = at_variable (n + divisions_in a) point ∙ s.1 ∙ ap (λ (z : ℤ). int_div_euclid (value_of a e) z) (sym (static_same b e h.1))
  linear_value n (Binary op.Mod a b) h s =
      let q = n + divisions_in a in let k = static_value b in
      at_minus (linear fields n a) (term k q (pos 0)) point
      ∙ ap (λ (z : ℤ). at (linear fields n a) point -ℤ z) (at_term k q (pos 0) point ∙ nothing_more (k *ℤ get_or point q (pos 0)))
      ∙ remainder_step _ k _ (value_of a e) _ (linear_value n a h.0 s.0) s.1 (remainder_is (value_of a e) k h.2)
      ∙ ap (λ (z : ℤ). int_rem_euclid (value_of a e) z) (sym (static_same b e h.1))
  linear_value n (Truth t) h s = absurd h
  linear_value n (Not a) h s = absurd h
  linear_value n (Binary op.And a b) h s = absurd h
  linear_value n (Binary op.Or a b) h s = absurd h
  linear_value n (Binary op.Equal a b) h s = absurd h
  linear_value n (Binary op.NotEqual a b) h s = absurd h
  linear_value n (Binary op.Less a b) h s = absurd h
  linear_value n (Binary op.LessEqual a b) h s = absurd h
  linear_value n (Binary op.Greater a b) h s = absurd h
  linear_value n (Binary op.GreaterEqual a b) h s = absurd h
