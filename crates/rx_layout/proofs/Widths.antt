-- How many variables the sums of expressions have.
use Rattle.std.proofs.Common.{ℕ, ◌+◌, ◌≤◌, arith, List, [], length, Bool, true, false, if◌then◌else◌, ℤ, pos, negsuc}
use Rattle.rx_types.specs.declared.expr.Operator.TheVariants as op
use Rattle.rx_types.specs.Tree.{Tree, Number, Truth, Field, First, Last, Size, Total, Neg, Not, Binary}
use Rattle.rx_types.specs.Static.{is_static, static_value}
use Rattle.rx_forms.specs.declared.linear.Linear.{Linear}
use Rattle.rx_forms.specs.Linear.{times, term}
use Rattle.rx_forms.specs.Normal.{Formed, formed_of, linear, divisions_in}
pub use Rattle.rx_layout.specs.Fitting.{AreLowTo}
use Rattle.rx_layout.proofs.Stepping.{term_length}
use Rattle.rx_layout.proofs.Bounds.{weighted_width}

by_static : (s : Bool) (f g : Linear) (j k : ℤ) (n x y : ℕ) → length f.coefficients ≤ n + x → length g.coefficients ≤ n + y → length (if s then times k g else times j f).coefficients ≤ n + (if s then y else x)
by_static true f g j k n x y h e = weighted_width g.coefficients [] k (pos 1) (n + y) e (omega arith)
by_static false f g j k n x y h e = weighted_width f.coefficients [] j (pos 1) (n + x) h (omega arith)

module _ (fields : List Formed) (d : ℕ) (low : (f : ℕ) → AreLowTo d (formed_of f fields)) where
  pub short_linear : (n : ℕ) (x : Tree) → d ≤ n → 1 ≤ n → length (linear fields n x).coefficients ≤ n + divisions_in x
  short_linear n (Number k) h e = omega arith
  short_linear n (Truth b) h e = omega arith
  short_linear n (Field f) h e = let w = (low f).number.short in omega (arith, h, w)
  short_linear n (First f) h e = let w = (low f).first.short in omega (arith, h, w)
  short_linear n (Last f) h e = let w = (low f).end.short in omega (arith, h, w)
  short_linear n (Size f) h e = let w = (low f).size.short in omega (arith, h, w)
  short_linear n Total h e = let w = term_length 0 (pos 8) in omega (arith, e, w)
  short_linear n (Neg a) h e = weighted_width (linear fields n a).coefficients [] (negsuc 0) (pos 1) (n + divisions_in a) (short_linear n a h e) (omega arith)
  short_linear n (Not a) h e = omega arith
  short_linear n (Binary op.Add a b) h e =
      let p = short_linear n a h e in
      let q = short_linear (n + divisions_in a) b (omega (arith, h)) (omega (arith, e)) in
      weighted_width (linear fields n a).coefficients (linear fields (n + divisions_in a) b).coefficients (pos 1) (pos 1) (n + (divisions_in a + divisions_in b)) (omega (arith, p)) (omega (arith, q))
  short_linear n (Binary op.Sub a b) h e =
      let p = short_linear n a h e in
      let q = short_linear (n + divisions_in a) b (omega (arith, h)) (omega (arith, e)) in
      weighted_width (linear fields n a).coefficients (linear fields (n + divisions_in a) b).coefficients (pos 1) (negsuc 0) (n + (divisions_in a + divisions_in b)) (omega (arith, p)) (omega (arith, q))
  short_linear n (Binary op.Mul a b) h e = by_static (is_static a) (linear fields n a) (linear fields n b) (static_value b) (static_value a) n (divisions_in a) (divisions_in b) (short_linear n a h e) (short_linear n b h e)
  short_linear n (Binary op.Div a b) h e = let w = term_length (n + divisions_in a) (pos 1) in omega (arith, w)
  short_linear n (Binary op.Mod a b) h e =
      let p = short_linear n a h e in
      let w = term_length (n + divisions_in a) (static_value b) in
      weighted_width (linear fields n a).coefficients (term (static_value b) (n + divisions_in a) (pos 0)).coefficients (pos 1) (negsuc 0) (n + (divisions_in a + 1)) (omega (arith, p)) (omega (arith, w))
  short_linear n (Binary op.And a b) h e = omega arith
  short_linear n (Binary op.Or a b) h e = omega arith
  short_linear n (Binary op.Equal a b) h e = omega arith
  short_linear n (Binary op.NotEqual a b) h e = omega arith
  short_linear n (Binary op.Less a b) h e = omega arith
  short_linear n (Binary op.LessEqual a b) h e = omega arith
  short_linear n (Binary op.Greater a b) h e = omega arith
  short_linear n (Binary op.GreaterEqual a b) h e = omega arith
