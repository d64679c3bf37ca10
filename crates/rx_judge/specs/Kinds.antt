-- What is known of an expression, and what an operator makes of it. The operator None is `**`, which leaves its value.
--   takes o l r            the operator takes operands of these kinds
--   is_linear o l r        what it divides or multiplies by is static
--   bounds_by o i j        the interval of its result, if it is narrow
--   about_both o l r i     what is known of its result
use Rattle.std.specs.Prelude.{Bool, true, false, not, ◌&&◌, ◌||◌, ◌==◌, Option, Some, None, ℤ, pos, int_lt, int_le, nat_abs}
use Rattle.std.specs.Int.{int_pow}
use Rattle.rx_syntax.specs.declared.tree.Operator.{Operator}
use Rattle.rx_syntax.specs.declared.tree.Operator.TheVariants as token
use Rattle.rx_types.specs.declared.interval.Interval.{Interval}
use Rattle.rx_types.specs.declared.expr.Operator as types
use Rattle.rx_types.specs.declared.expr.Operator.TheVariants as op
use Rattle.rx_types.specs.declared.kind.Kind.{Kind}
use Rattle.rx_types.specs.declared.kind.Kind.TheVariants as kind
use Rattle.rx_types.specs.Kinds.{kind_by}
use Rattle.rx_types.specs.Narrow.{single, if_short, narrow_by}
use Rattle.rx_types.specs.Static.{is_arithmetic}
use Rattle.rx_types.specs.Tree.{Tree, Number, Binary}
use Rattle.rx_judge.specs.declared.about.About.{About}

-- the operator of the expression
abbrev pub operator_of : Operator → Option types.Operator
operator_of token.Or = Some op.Or
operator_of token.And = Some op.And
operator_of token.Equal = Some op.Equal
operator_of token.NotEqual = Some op.NotEqual
operator_of token.Less = Some op.Less
operator_of token.LessEqual = Some op.LessEqual
operator_of token.Greater = Some op.Greater
operator_of token.GreaterEqual = Some op.GreaterEqual
operator_of token.Add = Some op.Add
operator_of token.Sub = Some op.Sub
operator_of token.Mul = Some op.Mul
operator_of token.Div = Some op.Div
operator_of token.Mod = Some op.Mod
operator_of token.Power = None

abbrev pub is_number : Kind → Bool
is_number kind.Number = true
is_number k = false

abbrev pub is_truth : Kind → Bool
is_truth kind.Truth = true
is_truth k = false

abbrev pub same_kind : Kind → Kind → Bool
same_kind kind.Number k = is_number k
same_kind kind.Truth k = is_truth k
same_kind (kind.Of a) (kind.Of b) = a == b
same_kind (kind.Of a) k = false

-- two numbers, two of one enumeration, or a truth value with True or False
abbrev pub are_comparable : About → About → Bool
are_comparable l r = same_kind l.kind r.kind && (not (is_truth l.kind) || l.is_literal || r.is_literal)

-- truth values for `and` and `or`, what can be compared for `=` and `/=`, and numbers for the others
abbrev pub takes : Option types.Operator → About → About → Bool
takes (Some op.Or) l r = is_truth l.kind && is_truth r.kind
takes (Some op.And) l r = is_truth l.kind && is_truth r.kind
takes (Some op.Equal) l r = are_comparable l r
takes (Some op.NotEqual) l r = are_comparable l r
takes o l r = is_number l.kind && is_number r.kind

abbrev pub is_static_divisor : About → Bool
is_static_divisor r = r.is_static && int_lt (pos 0) r.interval.low

-- a product has a static side, a divisor is a positive static number, and `**` has static parts and an exponent from 0 to 127
abbrev pub is_linear : Option types.Operator → About → About → Bool
is_linear (Some op.Mul) l r = l.is_static || r.is_static
is_linear (Some op.Div) l r = is_static_divisor r
is_linear (Some op.Mod) l r = is_static_divisor r
is_linear (Some o) l r = true
is_linear None l r = l.is_static && r.is_static && int_le (pos 0) r.interval.low && int_le r.interval.low (pos 127)

abbrev pub power : Interval → Interval → Interval
power i j = single (int_pow i.low (nat_abs j.low))

abbrev pub bounds_by : Option types.Operator → Interval → Interval → Option Interval
bounds_by (Some o) i j = narrow_by o i j
bounds_by None i j = if_short (power i j)

abbrev pub kind_of : Option types.Operator → Kind
kind_of (Some o) = kind_by o
kind_of None = kind.Number

-- made of numbers and arithmetic alone
abbrev pub keeps_static : Option types.Operator → Bool → Bool → Bool
keeps_static (Some o) l r = is_arithmetic o && l && r
keeps_static None l r = l && r

abbrev pub keeps_constant : Option types.Operator → Bool → Bool → Bool
keeps_constant (Some o) l r = is_arithmetic o && l && r
keeps_constant None l r = true

abbrev pub about_both : Option types.Operator → About → About → Interval → About
about_both o l r i = record { kind = kind_of o; is_static = keeps_static o l.is_static r.is_static; is_literal = false; is_constant = keeps_constant o l.is_constant r.is_constant; interval = i }

abbrev pub tree_by : Option types.Operator → ℤ → Tree → Tree → Tree
tree_by (Some o) z l r = Binary o l r
tree_by None z l r = Number z
