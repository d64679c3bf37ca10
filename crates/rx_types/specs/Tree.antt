-- Expressions without their places in memory: what clauses compare, and what every definition goes over.
--   Tree                 an expression; an operator with two operands is `Binary operator left right`
--   tree_of expr         what an expression of the code is
use Rattle.std.specs.Prelude.{ℕ, ℤ, Bool, Option, Some, None}
use Rattle.rx_types.specs.declared.expr.Operator.{Operator}
use Rattle.rx_types.specs.declared.expr.Expr.{Expr}
use Rattle.rx_types.specs.declared.expr.Expr.TheVariants as code

pub data Tree : Type 0 where
  Number : ℤ → Tree
  Truth : Bool → Tree
  Field : ℕ → Tree
  First : ℕ → Tree
  Last : ℕ → Tree
  Size : ℕ → Tree
  Total : Tree
  Neg : Tree → Tree
  Not : Tree → Tree
  Binary : Operator → Tree → Tree → Tree

abbrev pub tree_of : Expr → Tree
tree_of (code.Number n) = Number n
tree_of (code.Truth b) = Truth b
tree_of (code.Field f) = Field f
tree_of (code.First f) = First f
tree_of (code.Last f) = Last f
tree_of (code.Size f) = Size f
tree_of code.Total = Total
tree_of (code.Neg' p a) = Neg (tree_of a)
tree_of (code.Not' p a) = Not (tree_of a)
tree_of (code.Binary' o p a q b) = Binary o (tree_of a) (tree_of b)

abbrev pub tree_if_any : Option Expr → Option Tree
tree_if_any None = None
tree_if_any (Some x) = Some (tree_of x)
