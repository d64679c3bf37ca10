-- Intervals of expressions, and narrow expressions.
--   from_to, single                     numbers from one to another
--   sum, difference, product, ..        between which numbers an operator's result lies
--   interval_of limit x                 the interval of an expression, where field f's number is at most `limit f`
--   IsShort i                           both ends lie strictly between -2 ^ 100 and 2 ^ 100
--   narrow_by o i j                     the interval of an operator's result, if it is narrow
--   IsNarrow limit x                    each part's interval is short, and each divisor is one number, from 1 on and below 2 ^ 20
--   StaysWithin limit e                 the length and the fields of an environment stay in their intervals
use Rattle.std.specs.Prelude.{◌≡◌, ℕ, ◌^◌, ◌<◌, ◌≤◌, ℤ, pos, ◌+ℤ◌, ◌-ℤ◌, ◌*ℤ◌, ◌<ℤ◌, ◌≤ℤ◌, neg_ℤ, int_lt, Bool, true, ◌&&◌, Option, Some, None, if◌then◌else◌}
use Rattle.std.specs.Ordering.{int_eq}
use Rattle.std.specs.Int.{int_div_euclid, int_rem_euclid, int_min, int_max}
use Rattle.rx_types.specs.declared.interval.Interval.{Interval}
use Rattle.rx_types.specs.declared.expr.Operator.{Operator}
use Rattle.rx_types.specs.declared.expr.Operator.TheVariants as op
use Rattle.rx_types.specs.Environment.{Placed, Environment, place_of, last_of}
use Rattle.rx_types.specs.Value.{truth_value}
use Rattle.rx_types.specs.Tree.{Tree, Number, Truth, Field, First, Last, Size, Total, Neg, Not, Binary}

abbrev pub from_to : ℤ → ℤ → Interval
from_to a b = record { low = a; high = b }

abbrev pub single : ℤ → Interval
single z = from_to z z

pub record IsIn (z : ℤ) (i : Interval) : Type 0 where
  pub above : i.low ≤ℤ z
  pub below : z ≤ℤ i.high

-- the least and the greatest of four numbers
abbrev pub around : ℤ → ℤ → ℤ → ℤ → Interval
around a b c d = from_to (int_min (int_min a b) (int_min c d)) (int_max (int_max a b) (int_max c d))

abbrev pub negation : Interval → Interval
negation i = from_to (neg_ℤ i.high) (neg_ℤ i.low)

abbrev pub sum : Interval → Interval → Interval
sum i j = from_to (i.low +ℤ j.low) (i.high +ℤ j.high)

abbrev pub difference : Interval → Interval → Interval
difference i j = from_to (i.low -ℤ j.high) (i.high -ℤ j.low)

abbrev pub product : Interval → Interval → Interval
product i j = around (i.low *ℤ j.low) (i.low *ℤ j.high) (i.high *ℤ j.low) (i.high *ℤ j.high)

-- both ends divided by k and rounded down
abbrev pub quotient : Interval → ℤ → Interval
quotient i k = from_to (int_div_euclid i.low k) (int_div_euclid i.high k)

abbrev pub remainder : Interval → ℤ → Interval
remainder i k = if int_eq i.low i.high then single (int_rem_euclid i.low k) else from_to (pos 0) (k -ℤ pos 1)

abbrev pub truths : Interval
truths = from_to (pos 0) (pos 1)

-- what a First or a Size lies between, and what a Last
abbrev pub places_in_bits : Interval
places_in_bits = from_to (pos 0) (pos (2 ^ 27))

abbrev pub lasts_in_bits : Interval
lasts_in_bits = from_to (neg_ℤ (pos 1)) (pos (2 ^ 27))

-- A divisor is a single number.
abbrev pub interval_by : Operator → Interval → Interval → Interval
interval_by op.Add i j = sum i j
interval_by op.Sub i j = difference i j
interval_by op.Mul i j = product i j
interval_by op.Div i j = quotient i j.low
interval_by op.Mod i j = remainder i j.low
interval_by o i j = truths

abbrev pub interval_of : (ℕ → ℕ) → Tree → Interval
interval_of limit (Number n) = single n
interval_of limit (Truth b) = single (truth_value b)
interval_of limit (Field f) = from_to (pos 0) (pos (limit f))
interval_of limit (First f) = places_in_bits
interval_of limit (Last f) = lasts_in_bits
interval_of limit (Size f) = places_in_bits
interval_of limit Total = places_in_bits
interval_of limit (Neg a) = negation (interval_of limit a)
interval_of limit (Not a) = truths
interval_of limit (Binary o a b) = interval_by o (interval_of limit a) (interval_of limit b)

pub record IsShort (i : Interval) : Type 0 where
  pub low_above : neg_ℤ (pos (2 ^ 100)) <ℤ i.low
  pub low_below : i.low <ℤ pos (2 ^ 100)
  pub high_above : neg_ℤ (pos (2 ^ 100)) <ℤ i.high
  pub high_below : i.high <ℤ pos (2 ^ 100)

pub record IsDivisor (i : Interval) : Type 0 where
  pub single : i.low ≡ i.high
  pub positive : pos 0 <ℤ i.low
  pub below : i.low <ℤ pos (2 ^ 20)

-- the same as tests
abbrev pub is_small : ℤ → Bool
is_small z = int_lt (neg_ℤ (pos (2 ^ 100))) z && int_lt z (pos (2 ^ 100))

abbrev pub is_short : Interval → Bool
is_short i = is_small i.low && is_small i.high

abbrev pub is_divisor : Interval → Bool
is_divisor i = int_eq i.low i.high && int_lt (pos 0) i.low && int_lt i.low (pos (2 ^ 20))

abbrev pub is_divisor_in : Operator → Interval → Bool
is_divisor_in op.Div i = is_divisor i
is_divisor_in op.Mod i = is_divisor i
is_divisor_in o i = true

abbrev pub if_short : Interval → Option Interval
if_short i = if is_short i then Some i else None

-- the interval of an operator's result, if it is short and the divisor is one
abbrev pub narrow_by : Operator → Interval → Interval → Option Interval
narrow_by o i j = if is_divisor_in o j then if_short (interval_by o i j) else None

-- what an operator divides by is a divisor
abbrev pub IsDivisorIn : Operator → Interval → Type 0
IsDivisorIn op.Div i = IsDivisor i
IsDivisorIn op.Mod i = IsDivisor i
IsDivisorIn o i = Unit {0}

abbrev pub IsNarrow : (ℕ → ℕ) → Tree → Type 0
IsNarrow limit (Neg a) = IsShort (interval_of limit (Neg a)) × IsNarrow limit a
IsNarrow limit (Not a) = IsShort (interval_of limit (Not a)) × IsNarrow limit a
IsNarrow limit (Binary o a b) = IsShort (interval_of limit (Binary o a b)) × IsDivisorIn o (interval_of limit b) × IsNarrow limit a × IsNarrow limit b
IsNarrow limit leaf = IsShort (interval_of limit leaf)

-- a place in a message of at most 16,777,215 bytes, and a number up to the limit
pub record IsBounded (limit : ℕ) (p : Placed) : Type 0 where
  pub first_above : pos 0 ≤ℤ p.first
  pub first_below : p.first ≤ℤ pos (2 ^ 27)
  pub size_above : pos 0 ≤ℤ p.size
  pub size_below : p.size ≤ℤ pos (2 ^ 27)
  pub last_below : last_of p ≤ℤ pos (2 ^ 27)
  pub number : p.number ≤ limit

pub record StaysWithin (limit : ℕ → ℕ) (e : Environment) : Type 0 where
  pub total : e.total < 2 ^ 24
  pub fields : (f : ℕ) → IsBounded (limit f) (place_of f e.fields)
