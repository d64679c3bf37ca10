-- The divisions of an expression: what is divided, by what, and the variable of the quotient.
--   division_rows q form k interval   what leaves a quotient no choice
--   divisions limit fields n x        the rows of all divisions of an expression
--   quotients x e                     the values of its division variables
use Rattle.std.specs.Prelude.{List, [], ◌∷◌, ◌++◌, ℕ, ◌+◌, if◌then◌else◌, ℤ, pos, negsuc, ◌-ℤ◌, neg_ℤ}
use Rattle.std.specs.Int.{int_div_euclid}
use Rattle.rx_types.specs.declared.interval.Interval.{Interval}
use Rattle.rx_types.specs.declared.expr.Operator.TheVariants as op
use Rattle.rx_types.specs.Tree.{Tree, Neg, Not, Binary}
use Rattle.rx_types.specs.Environment.{Environment}
use Rattle.rx_types.specs.Static.{is_static, static_value}
use Rattle.rx_types.specs.Value.{value_of}
use Rattle.rx_types.specs.Narrow.{interval_of}
use Rattle.rx_forms.specs.declared.linear.Linear.{Linear}
use Rattle.rx_forms.specs.Linear.{term, minus}
use Rattle.rx_forms.specs.Normal.{Formed, linear, divisions_in}

-- The quotient, variable q, of a sum by k is rounded down: the sum less k q, and k q + k - 1 less the sum, are at least 0. It
-- lies between the quotients of the ends of the sum's interval.
abbrev pub division_rows : ℕ → Linear → ℤ → Interval → List Linear
division_rows q form k interval =
    minus form (term k q (pos 0))
    ∷ minus (term k q (k -ℤ pos 1)) form
    ∷ term (pos 1) q (neg_ℤ (int_div_euclid interval.low k))
    ∷ term (negsuc 0) q (int_div_euclid interval.high k)
    ∷ []

module _ (limit : ℕ → ℕ) (fields : List Formed) where
  -- the rows of an expression's divisions, in the order of their variables, the first of which is n
  abbrev pub divisions : ℕ → Tree → List Linear
  divisions n (Neg a) = divisions n a
  divisions n (Not a) = divisions n a
  divisions n (Binary op.Mul a b) = if is_static a then divisions n b else divisions n a
  divisions n (Binary op.Div a b) = divisions n a ++ division_rows (n + divisions_in a) (linear fields n a) (static_value b) (interval_of limit a)
  divisions n (Binary op.Mod a b) = divisions n a ++ division_rows (n + divisions_in a) (linear fields n a) (static_value b) (interval_of limit a)
  divisions n (Binary o a b) = divisions n a ++ divisions (n + divisions_in a) b
  divisions n leaf = []

-- the values of the division variables of an expression, in their order
abbrev pub quotients : Tree → Environment → List ℤ
quotients (Neg a) e = quotients a e
quotients (Not a) e = quotients a e
quotients (Binary op.Mul a b) e = if is_static a then quotients b e else quotients a e
quotients (Binary op.Div a b) e = quotients a e ++ int_div_euclid (value_of a e) (static_value b) ∷ []
quotients (Binary op.Mod a b) e = quotients a e ++ int_div_euclid (value_of a e) (static_value b) ∷ []
quotients (Binary o a b) e = quotients a e ++ quotients b e
quotients leaf e = []
