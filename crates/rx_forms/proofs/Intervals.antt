-- Environments of nothing, and the intervals that `bounds` gives.
use Rattle.std.proofs.Common.{◌≡◌, refl, ap, ◌∙◌, ℕ, ◌<◌, ◌≤◌, ◌^◌, ◌-◌, arith, Bool, true, false, Some, None, pos, ◌<ℤ◌, if◌then◌else◌, nat_lt}
use Rattle.std.proofs.lemmas.Int.{ints}
use Rattle.std.proofs.Math.Nat.{pow-le-pow_right}
use Rattle.rx_types.specs.declared.interval.Interval.{Interval}
use Rattle.rx_types.specs.declared.expr.Operator.{Operator}
use Rattle.rx_types.specs.declared.expr.Operator.TheVariants as op
use Rattle.rx_types.specs.Tree.{Tree}
use Rattle.rx_types.specs.Static.{nothing, static_value}
use Rattle.rx_types.specs.Narrow.{IsShort, IsDivisor, IsDivisorIn, StaysWithin, IsNarrow, interval_of, interval_by, narrow_by, is_divisor_in, is_divisor, is_short, if_short}
use Rattle.rx_types.proofs.Within.{value_in}

pub nothing_stays : (limit : ℕ → ℕ) → StaysWithin limit nothing
nothing_stays limit = record {
  total = omega arith;
  fields = λ f. record { first_above = omega (arith, ints); first_below = omega (arith, ints); size_above = omega (arith, ints); size_below = omega (arith, ints); last_below = omega (arith, ints); number = omega arith };
}

-- the value of a divisor is from 1 on
pub divisor_positive : (limit : ℕ → ℕ) (x : Tree) → IsNarrow limit x → IsDivisor (interval_of limit x) → pos 0 <ℤ static_value x
divisor_positive limit x h d = let i = value_in limit nothing (nothing_stays limit) x h in omega (arith, ints, i.above, d.positive)

short_test : (i : Interval) → IsShort i → is_short i ≡ true
short_test i h = grind (arith, ints, h.low_above, h.low_below, h.high_above, h.high_below)

divisor_test : (i : Interval) → IsDivisor i → is_divisor i ≡ true
divisor_test i h = grind (arith, ints, h.single, h.positive, h.below)

divisor_in_test : (o : Operator) (i : Interval) → IsDivisorIn o i → is_divisor_in o i ≡ true
divisor_in_test op.Div i h = divisor_test i h
divisor_in_test op.Mod i h = divisor_test i h
divisor_in_test op.Add i h = refl
divisor_in_test op.Sub i h = refl
divisor_in_test op.Mul i h = refl
divisor_in_test op.And i h = refl
divisor_in_test op.Or i h = refl
divisor_in_test op.Equal i h = refl
divisor_in_test op.NotEqual i h = refl
divisor_in_test op.Less i h = refl
divisor_in_test op.LessEqual i h = refl
divisor_in_test op.Greater i h = refl
divisor_in_test op.GreaterEqual i h = refl

pub narrow_some : (o : Operator) (i j : Interval) → IsShort (interval_by o i j) → IsDivisorIn o j → narrow_by o i j ≡ Some (interval_by o i j)
narrow_some o i j s d =
    ap (λ (b : Bool). if b then if_short (interval_by o i j) else None) (divisor_in_test o j d)
    ∙ ap (λ (b : Bool). if b then Some (interval_by o i j) else None) (short_test (interval_by o i j) s)

-- a size whose numbers are small is below 127
pub small_size : (n : ℕ) → 2 ^ n - 1 < 2 ^ 100 → n < 127
small_size n h = by_test (nat_lt n 127) refl
  where
    by_test : (b : Bool) → nat_lt n 127 ≡ b → n < 127
    by_test true e = grind (arith, e)
    by_test false e =
        let above : 127 ≤ n = grind (arith, e) in
        let p : 2 ^ 127 ≤ 2 ^ n = pow-le-pow_right {n = 2} (omega arith) {i = 127} {j = n} above in
        absurd (omega (arith, p, h))

pub same_some : (a b : Interval) → Some a ≡ Some b → a ≡ b
same_some a b e = cc

pub no_some : (a : Interval) (P : Type 0) → None ≡ Some a → P
no_some a P e = absurd (cc)
