-- Kinds of expressions.
--   kind_by o             the kind of an operator's result
--   HasKind kinds x k     the expression is typed, and of kind k, where `kinds f` is the kind of field f
use Rattle.std.specs.Prelude.{◌≡◌, ◌≢◌, ℕ, Option, Some, ◌⊎◌}
use Rattle.rx_types.specs.declared.expr.Operator.{Operator}
use Rattle.rx_types.specs.declared.expr.Operator.TheVariants as op
use Rattle.rx_types.specs.declared.kind.Kind.{Kind}
use Rattle.rx_types.specs.declared.kind.Kind.TheVariants as kind
use Rattle.rx_types.specs.Tree.{Tree, Number, Truth, Field, Neg, Not, Binary}

abbrev pub kind_by : Operator → Kind
kind_by op.Add = kind.Number
kind_by op.Sub = kind.Number
kind_by op.Mul = kind.Number
kind_by op.Div = kind.Number
kind_by op.Mod = kind.Number
kind_by o = kind.Truth

-- True or False
abbrev pub IsSpelled : Tree → Type 0
IsSpelled (Truth b) = Unit {0}
IsSpelled x = ⊥

-- Two numbers, two of one enumeration, or a truth value and True or False.
abbrev pub AreComparable : Kind → Tree → Tree → Type 0
AreComparable kind.Truth a b = IsSpelled a ⊎ IsSpelled b
AreComparable k a b = Unit {0}

-- An operator takes operands of one kind: truth values, what can be compared, or numbers.
abbrev pub Takes : Operator → Kind → Tree → Tree → Type 0
Takes op.And k a b = k ≡ kind.Truth
Takes op.Or k a b = k ≡ kind.Truth
Takes op.Equal k a b = AreComparable k a b
Takes op.NotEqual k a b = AreComparable k a b
Takes o k a b = k ≡ kind.Number

-- A number alone may be a literal of an enumeration.
abbrev pub HasKind : (ℕ → Option Kind) → Tree → Kind → Type 0
HasKind kinds (Number n) k = k ≢ kind.Truth
HasKind kinds (Truth b) k = k ≡ kind.Truth
HasKind kinds (Field f) k = kinds f ≡ Some k
HasKind kinds (Neg a) k = (k ≡ kind.Number) × HasKind kinds a kind.Number
HasKind kinds (Not a) k = (k ≡ kind.Truth) × HasKind kinds a kind.Truth
HasKind kinds (Binary o a b) k = (k ≡ kind_by o) × ((l : Kind) × Takes o l a b × HasKind kinds a l × HasKind kinds b l)
HasKind kinds leaf k = k ≡ kind.Number
