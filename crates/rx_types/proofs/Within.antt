-- The value of a narrow expression lies in its interval.
use Rattle.std.proofs.Common.{◌≡◌, ℕ, zero, suc, ◌*◌, ◌/◌, ◌≤◌, refl, arith, inl, inr, Bool, true, false}
use Rattle.std.specs.Prelude.{ℤ, pos, negsuc, ◌-ℤ◌, ◌*ℤ◌, ◌<ℤ◌, ◌≤ℤ◌, ◌⊎◌}
use Rattle.std.specs.Int.{int_div_euclid, int_rem_euclid}
use Rattle.std.proofs.lemmas.Int.{ints, clamps}
use Rattle.std.proofs.lemmas.Nat.{mul-le, le-div, mod_below}
use Rattle.std.proofs.lemmas.Bool.Decides.{Decides-int_eq}
use Rattle.std.specs.Ordering.{int_eq}
use Rattle.std.specs.Prelude.{if◌then◌else◌}
use Rattle.std.proofs.Math.Nat.{div-mul-le_self}
use Rattle.std.proofs.Math.IntN.{*ℤ_comm}
use Rattle.rx_types.specs.declared.interval.Interval.{Interval}
use Rattle.rx_types.specs.declared.expr.Operator.{Operator}
use Rattle.rx_types.specs.declared.expr.Operator.TheVariants as op
use Rattle.rx_types.specs.Environment.{Environment}
use Rattle.rx_types.specs.Value.{value_of, combined, truth_value, IsSmall, TakesDivisor, IsEvaluable}
use Rattle.rx_types.specs.Narrow.{IsIn, interval_of, interval_by, IsShort, IsDivisor, IsDivisorIn, IsNarrow, StaysWithin, product, quotient, remainder, around, from_to, single, truths}
use Rattle.rx_types.specs.Tree.{Tree, Number, Truth, Field, First, Last, Size, Total, Neg, Not, Binary}

-- z lies between x and y, whichever is the greater
abbrev IsBetween : ℤ → ℤ → ℤ → Type 0
IsBetween z x y = ((x ≤ℤ z) × (z ≤ℤ y)) ⊎ ((y ≤ℤ z) × (z ≤ℤ x))

-- a product with a number that is not negative keeps the order
up_mul : (a b : ℤ) (n : ℕ) → a ≤ℤ b → (a *ℤ pos n) ≤ℤ (b *ℤ pos n)
up_mul (pos a) (pos b) n h = let p : a * n ≤ b * n = mul-le a n b n (omega (arith, ints)) (omega arith) in omega (arith, ints)
up_mul (negsuc a) (pos b) n h = omega (arith, ints)
up_mul (negsuc a) (negsuc b) n h = let p : suc b * n ≤ suc a * n = mul-le (suc b) n (suc a) n (omega (arith, ints)) (omega arith) in omega (arith, ints)
up_mul (pos a) (negsuc b) n h = absurd h.le

-- and one with a negative number turns it round
down_mul : (a b : ℤ) (n : ℕ) → a ≤ℤ b → (b *ℤ negsuc n) ≤ℤ (a *ℤ negsuc n)
down_mul (pos a) (pos b) n h = let p : a * suc n ≤ b * suc n = mul-le a (suc n) b (suc n) (omega (arith, ints)) (omega arith) in omega (arith, ints)
down_mul (negsuc a) (pos b) n h = omega (arith, ints)
down_mul (negsuc a) (negsuc b) n h = let p : suc b * suc n ≤ suc a * suc n = mul-le (suc b) (suc n) (suc a) (suc n) (omega (arith, ints)) (omega arith) in omega (arith, ints)
down_mul (pos a) (negsuc b) n h = absurd h.le

left_between : (a lo hi b : ℤ) → lo ≤ℤ a → a ≤ℤ hi → IsBetween (a *ℤ b) (lo *ℤ b) (hi *ℤ b)
left_between a lo hi (pos n) l h = inl (up_mul lo a n l, up_mul a hi n h)
left_between a lo hi (negsuc n) l h = inr (down_mul a hi n h, down_mul lo a n l)

right_between : (a b lo hi : ℤ) → lo ≤ℤ b → b ≤ℤ hi → IsBetween (a *ℤ b) (a *ℤ lo) (a *ℤ hi)
right_between a b lo hi l h = rw (*ℤ_comm a b, *ℤ_comm a lo, *ℤ_comm a hi) (left_between b lo hi a l h)

four : (z u v p q r s : ℤ) → IsBetween z u v → IsBetween u p q → IsBetween v r s → IsIn z (around p q r s)
four z u v p q r s (inl a) (inl b) (inl c) = record { above = omega (arith, ints, clamps); below = omega (arith, ints, clamps) }
four z u v p q r s (inl a) (inl b) (inr c) = record { above = omega (arith, ints, clamps); below = omega (arith, ints, clamps) }
four z u v p q r s (inl a) (inr b) (inl c) = record { above = omega (arith, ints, clamps); below = omega (arith, ints, clamps) }
four z u v p q r s (inl a) (inr b) (inr c) = record { above = omega (arith, ints, clamps); below = omega (arith, ints, clamps) }
four z u v p q r s (inr a) (inl b) (inl c) = record { above = omega (arith, ints, clamps); below = omega (arith, ints, clamps) }
four z u v p q r s (inr a) (inl b) (inr c) = record { above = omega (arith, ints, clamps); below = omega (arith, ints, clamps) }
four z u v p q r s (inr a) (inr b) (inl c) = record { above = omega (arith, ints, clamps); below = omega (arith, ints, clamps) }
four z u v p q r s (inr a) (inr b) (inr c) = record { above = omega (arith, ints, clamps); below = omega (arith, ints, clamps) }

in_product : (a b : ℤ) (i j : Interval) → IsIn a i → IsIn b j → IsIn (a *ℤ b) (product i j)
in_product a b i j x y =
    four _ _ _ _ _ _ _ (left_between a i.low i.high b x.above x.below) (right_between i.low b j.low j.high y.above y.below) (right_between i.high b j.low j.high y.above y.below)

quotient_nat : (a b k : ℕ) → a ≤ b → a / suc k ≤ b / suc k
quotient_nat a b k h = le-div (a / suc k) b (suc k) (omega arith) (omega (arith, div-mul-le_self a (suc k)))

pub quotient_up : (a b : ℤ) (k : ℕ) → a ≤ℤ b → int_div_euclid a (pos (suc k)) ≤ℤ int_div_euclid b (pos (suc k))
quotient_up (pos a) (pos b) k h = let p = quotient_nat a b k (omega (arith, ints)) in omega (arith, ints)
quotient_up (negsuc a) (pos b) k h = omega (arith, ints)
quotient_up (negsuc a) (negsuc b) k h = let p = quotient_nat b a k (omega (arith, ints)) in omega (arith, ints)
quotient_up (pos a) (negsuc b) k h = absurd h.le

in_quotient_by : (a c : ℤ) (i : Interval) → pos 0 <ℤ c → IsIn a i → IsIn (int_div_euclid a c) (quotient i c)
in_quotient_by a (pos zero) i p x = absurd p.lt
in_quotient_by a (pos (suc k)) i p x = record { above = quotient_up i.low a k x.above; below = quotient_up a i.high k x.below }
in_quotient_by a (negsuc k) i p x = absurd p.lt

-- what a number in the interval of a divisor is
is_the_divisor : (b : ℤ) (j : Interval) → IsDivisor j → IsIn b j → b ≡ j.low
is_the_divisor b j d y = let e = d.single in omega (arith, ints, d.single, y.above, y.below)

in_quotient : (a b : ℤ) (i j : Interval) → IsDivisor j → IsIn a i → IsIn b j → IsIn (int_div_euclid a b) (quotient i j.low)
in_quotient a b i j d x y = rw (is_the_divisor b j d y) (in_quotient_by a j.low i d.positive x)

rest_below : (a : ℤ) (k : ℕ) → IsIn (int_rem_euclid a (pos (suc k))) (from_to (pos 0) (pos (suc k) -ℤ pos 1))
rest_below (pos a) k = let p = mod_below a (suc k) (omega arith) in record { above = omega (arith, ints); below = omega (arith, ints) }
rest_below (negsuc a) k = let p = mod_below a (suc k) (omega arith) in record { above = omega (arith, ints); below = omega (arith, ints) }

in_remainder_if : (t : Bool) (a c : ℤ) (i : Interval) → (t ≡ true → i.low ≡ i.high) → pos 0 <ℤ c → IsIn a i → IsIn (int_rem_euclid a c) (if t then single (int_rem_euclid i.low c) else from_to (pos 0) (c -ℤ pos 1))
in_remainder_if true a c i same p x =
    let one : a ≡ i.low = omega (arith, ints, same refl, x.above, x.below) in
    rw one (record { above = omega (arith, ints); below = omega (arith, ints) })
in_remainder_if false a (pos zero) i same p x = absurd p.lt
in_remainder_if false a (pos (suc k)) i same p x = rest_below a k
in_remainder_if false a (negsuc k) i same p x = absurd p.lt

in_remainder : (a b : ℤ) (i j : Interval) → IsDivisor j → IsIn a i → IsIn b j → IsIn (int_rem_euclid a b) (remainder i j.low)
in_remainder a b i j d x y =
    rw (is_the_divisor b j d y) (in_remainder_if (int_eq i.low i.high) a j.low i (Decides-int_eq i.low i.high).0 d.positive x)

in_truths : (b : Bool) → IsIn (truth_value b) truths
in_truths true = record { above = omega (arith, ints); below = omega (arith, ints) }
in_truths false = record { above = omega (arith, ints); below = omega (arith, ints) }

in_single : (z : ℤ) → IsIn z (single z)
in_single z = record { above = omega (arith, ints); below = omega (arith, ints) }

small : (z : ℤ) (i : Interval) → IsShort i → IsIn z i → IsSmall z
small z i s x = record { above = omega (arith, ints, s.low_above, x.above); below = omega (arith, ints, s.high_below, x.below) }

-- what an operator makes of numbers in two intervals lies in its interval
in_both : (o : Operator) (a b : ℤ) (i j : Interval) → IsDivisorIn o j → IsIn a i → IsIn b j → IsIn (combined o a b) (interval_by o i j)
in_both op.Add a b i j d x y = record { above = omega (arith, ints, x.above, y.above); below = omega (arith, ints, x.below, y.below) }
in_both op.Sub a b i j d x y = record { above = omega (arith, ints, x.above, y.below); below = omega (arith, ints, x.below, y.above) }
in_both op.Mul a b i j d x y = in_product a b i j x y
in_both op.Div a b i j d x y = in_quotient a b i j d x y
in_both op.Mod a b i j d x y = in_remainder a b i j d x y
in_both op.And a b i j d x y = in_truths _
in_both op.Or a b i j d x y = in_truths _
in_both op.Equal a b i j d x y = in_truths _
in_both op.NotEqual a b i j d x y = in_truths _
in_both op.Less a b i j d x y = in_truths _
in_both op.LessEqual a b i j d x y = in_truths _
in_both op.Greater a b i j d x y = in_truths _
in_both op.GreaterEqual a b i j d x y = in_truths _

positive : (b : ℤ) (j : Interval) → IsDivisor j → IsIn b j → pos 0 <ℤ b
positive b j d y = omega (arith, ints, d.positive, y.above)

divides : (o : Operator) (b : ℤ) (j : Interval) → IsDivisorIn o j → IsIn b j → TakesDivisor o b
divides op.Div b j d y = positive b j d y
divides op.Mod b j d y = positive b j d y
divides op.Add b j d y = tt
divides op.Sub b j d y = tt
divides op.Mul b j d y = tt
divides op.And b j d y = tt
divides op.Or b j d y = tt
divides op.Equal b j d y = tt
divides op.NotEqual b j d y = tt
divides op.Less b j d y = tt
divides op.LessEqual b j d y = tt
divides op.Greater b j d y = tt
divides op.GreaterEqual b j d y = tt

-- the interval of a narrow expression is short
pub interval-short : (limit : ℕ → ℕ) (x : Tree) → IsNarrow limit x → IsShort (interval_of limit x)
interval-short limit (Number n) h = h
interval-short limit (Truth b) h = h
interval-short limit (Field f) h = h
interval-short limit (First f) h = h
interval-short limit (Last f) h = h
interval-short limit (Size f) h = h
interval-short limit Total h = h
interval-short limit (Neg a) h = h.0
interval-short limit (Not a) h = h.0
interval-short limit (Binary o a b) h = h.0

module _ (limit : ℕ → ℕ) (e : Environment) (w : StaysWithin limit e) where
  -- the value lies in the interval, by the parts
  pub value_in : (x : Tree) → IsNarrow limit x → IsIn (value_of x e) (interval_of limit x)
  value_in (Number n) h = in_single n
  value_in (Truth b) h = in_single (truth_value b)
  value_in (Field f) h = record { above = omega (arith, ints); below = omega (arith, ints, (w.fields f).number) }
  value_in (First f) h = record { above = (w.fields f).first_above; below = (w.fields f).first_below }
  value_in (Last f) h = record { above = omega (arith, ints, (w.fields f).first_above, (w.fields f).size_above); below = (w.fields f).last_below }
  value_in (Size f) h = record { above = (w.fields f).size_above; below = (w.fields f).size_below }
  value_in Total h = record { above = omega (arith, ints); below = omega (arith, ints, w.total) }
  value_in (Neg a) h =
      let x = value_in a h.1 in
      record { above = omega (arith, ints, x.below); below = omega (arith, ints, x.above) }
  value_in (Not a) h = in_truths _
  value_in (Binary o a b) h = in_both o _ _ _ _ h.1 (value_in a h.2) (value_in b h.3)

  -- so a narrow expression can be evaluated
  pub narrow_is_evaluable : (x : Tree) → IsNarrow limit x → IsEvaluable x e
  narrow_is_evaluable (Number n) h = small _ _ h (value_in (Number n) h)
  narrow_is_evaluable (Truth b) h = small _ _ h (value_in (Truth b) h)
  narrow_is_evaluable (Field f) h = small _ _ h (value_in (Field f) h)
  narrow_is_evaluable (First f) h = small _ _ h (value_in (First f) h)
  narrow_is_evaluable (Last f) h = small _ _ h (value_in (Last f) h)
  narrow_is_evaluable (Size f) h = small _ _ h (value_in (Size f) h)
  narrow_is_evaluable Total h = small _ _ h (value_in Total h)
  narrow_is_evaluable (Neg a) h = (small _ _ h.0 (value_in (Neg a) h), narrow_is_evaluable a h.1)
  narrow_is_evaluable (Not a) h = (small _ _ h.0 (value_in (Not a) h), narrow_is_evaluable a h.1)
  narrow_is_evaluable (Binary o a b) h =
      (small _ _ h.0 (value_in (Binary o a b) h), divides o _ _ h.1 (value_in b h.3), narrow_is_evaluable a h.2, narrow_is_evaluable b h.3)

  pub narrow_is_small : (x : Tree) → IsNarrow limit x → IsSmall (value_of x e)
  narrow_is_small x h = small _ _ (interval-short limit x h) (value_in x h)
