-- Intervals that are short, and those that are not.
use Rattle.std.proofs.Common.{◌≡◌, Bool, true, false, None, refl, arith}
use Rattle.std.specs.Prelude.{ℤ, ◌≤ℤ◌, FitsSigned}
use Rattle.std.proofs.lemmas.Int.{ints, clamps}
use mir.Syntax.{w128}
use mir.Val.{to_z, of_z}
use Rattle.rx_types.specs.declared.interval.Interval.{Interval}
use Rattle.rx_types.specs.declared.expr.Operator.{Operator}
use Rattle.rx_types.specs.declared.expr.Operator.TheVariants as op
use Rattle.rx_types.specs.Narrow.{is_short, IsShort, around, if_short, is_divisor, is_divisor_in, IsDivisor, IsDivisorIn}

pub short_facts : (i : Interval) → is_short i ≡ true → IsShort i
short_facts i h = record { low_above = grind (arith, ints); low_below = grind (arith, ints); high_above = grind (arith, ints); high_below = grind (arith, ints) }

pub divisor_facts : (i : Interval) → is_divisor i ≡ true → IsDivisor i
divisor_facts i h = record { single = grind (arith, ints); positive = grind (arith, ints); below = grind (arith, ints) }

-- what an operator's divisor is, as facts
pub divisor_in_facts : (o : Operator) (i : Interval) → is_divisor_in o i ≡ true → IsDivisorIn o i
divisor_in_facts op.Div i h = divisor_facts i h
divisor_in_facts op.Mod i h = divisor_facts i h
divisor_in_facts op.Add i h = tt
divisor_in_facts op.Sub i h = tt
divisor_in_facts op.Mul i h = tt
divisor_in_facts op.And i h = tt
divisor_in_facts op.Or i h = tt
divisor_in_facts op.Equal i h = tt
divisor_in_facts op.NotEqual i h = tt
divisor_in_facts op.Less i h = tt
divisor_in_facts op.LessEqual i h = tt
divisor_in_facts op.Greater i h = tt
divisor_in_facts op.GreaterEqual i h = tt

if_none : (b : Bool) (i : Interval) → is_short i ≡ b → (IsShort i → ⊥) → if_short i ≡ None
if_none true i e nope = absurd (nope (short_facts i e))
if_none false i e nope = rw e refl

between_fits : (i : Interval) (z : ℤ) → i.low ≤ℤ z → z ≤ℤ i.high → IsShort i → FitsSigned w128 z
between_fits i z l h s = let a = s.low_above in let b = s.high_below in omega (arith, ints)

-- an interval round a number that does not fit is not short
wide : (i : Interval) (z : ℤ) → i.low ≤ℤ z → z ≤ℤ i.high → (FitsSigned w128 z → ⊥) → if_short i ≡ None
wide i z l h nope = if_none (is_short i) i refl (λ (s : IsShort i). nope (between_fits i z l h s))

pub around_1 : (a b c d : ℤ) → (FitsSigned w128 a → ⊥) → if_short (around a b c d) ≡ None
around_1 a b c d nope = wide (around a b c d) a (omega (arith, ints, clamps)) (omega (arith, ints, clamps)) nope

pub around_2 : (a b c d : ℤ) → (FitsSigned w128 b → ⊥) → if_short (around a b c d) ≡ None
around_2 a b c d nope = wide (around a b c d) b (omega (arith, ints, clamps)) (omega (arith, ints, clamps)) nope

pub around_3 : (a b c d : ℤ) → (FitsSigned w128 c → ⊥) → if_short (around a b c d) ≡ None
around_3 a b c d nope = wide (around a b c d) c (omega (arith, ints, clamps)) (omega (arith, ints, clamps)) nope

pub around_4 : (a b c d : ℤ) → (FitsSigned w128 d → ⊥) → if_short (around a b c d) ≡ None
around_4 a b c d nope = wide (around a b c d) d (omega (arith, ints, clamps)) (omega (arith, ints, clamps)) nope

-- an argument as a call shows it
abbrev pub passed : ℤ → ℤ
passed z = to_z w128 (of_z w128 z)
