-- What has been worked out of an expression: its form, and the variables and rows of its divisions behind those before.
--   IsLeaf, sum_by, divided_by    numbers with no operands, and what sums and divisions make of their operands' sums
--   IsTruth, multiple, by_differences, spelled_in, agreed, takes_all    what conditions make of their operands
--   Goes, HasSum, HasComparison, HasFact    the divisions, the sum and the fact of an expression
--   HasAspect, size_otherwise, number_at    the First or the Size of a field, and the variable of its number
use Rattle.std.specs.Prelude.{◌≡◌, List, [], ◌∷◌, ◌++◌, ℕ, ◌+◌, Bool, true, not, ◌&&◌, nat_le, if◌then◌else◌, ℤ, pos, Option, Some, None}
use Rattle.rx_types.specs.declared.expr.Operator.{Operator}
use Rattle.rx_types.specs.declared.expr.Operator.TheVariants as op
use Rattle.rx_types.specs.Domain.{Domain, size_of}
use Rattle.rx_types.specs.Tree.{Tree, Number, Truth, Field, First, Last, Size, Total}
use Rattle.rx_forms.specs.declared.linear.Linear.{Linear}
use Rattle.rx_forms.specs.declared.linear.Form.{Form, AtLeast, All, Any}
use Rattle.rx_forms.specs.declared.work.Work.{Work}
use Rattle.rx_forms.specs.Linear.{constant, term, plus, minus, less_one}
use Rattle.rx_forms.specs.Normal.{Formed, bits, linear, condition, comparison, divisions_in, truth_in, agree}
use Rattle.rx_forms.specs.Divisions.{divisions}
use Rattle.rx_forms.specs.Limits.{is_low, all_kept, is_within, sides_within}
use Rattle.rx_forms.specs.Steps.{form_or, divisions_in_any, divisions_any, met_any}

-- a number with no operands
abbrev pub IsLeaf : Tree → Type 0
IsLeaf (Number k) = Unit {0}
IsLeaf (Field f) = Unit {0}
IsLeaf (First f) = Unit {0}
IsLeaf (Last f) = Unit {0}
IsLeaf (Size f) = Unit {0}
IsLeaf Total = Unit {0}
IsLeaf x = ⊥

-- the sum of two, or their difference
abbrev pub sum_by : Operator → Linear → Linear → Linear
sum_by op.Sub f g = minus f g
sum_by o f g = plus f g

-- the quotient q of a sum by k, or what is left over
abbrev pub divided_by : Operator → ℕ → Linear → ℤ → Linear
divided_by op.Mod q f k = minus f (term k q (pos 0))
divided_by o q f k = term (pos 1) q (pos 0)

-- ---- facts

-- a truth value with no operands
abbrev pub IsTruth : Tree → Type 0
IsTruth (Truth b) = Unit {0}
IsTruth (Field f) = Unit {0}
IsTruth x = ⊥

-- a multiple of a variable plus a number, the number alone where there is no variable
abbrev pub multiple : ℤ → Option ℕ → ℤ → Linear
multiple k None c = constant c
multiple k (Some v) c = term k v c

-- the comparison of f and g by their differences f - g and g - f
abbrev pub by_differences : Operator → Bool → Linear → Linear → Form
by_differences op.Equal wanted d e = if wanted then All (AtLeast d ∷ AtLeast e ∷ []) else Any (AtLeast (less_one e) ∷ AtLeast (less_one d) ∷ [])
by_differences op.NotEqual wanted d e = if wanted then Any (AtLeast (less_one e) ∷ AtLeast (less_one d) ∷ []) else All (AtLeast d ∷ AtLeast e ∷ [])
by_differences op.Less wanted d e = if wanted then AtLeast (less_one e) else AtLeast d
by_differences op.LessEqual wanted d e = if wanted then AtLeast e else AtLeast (less_one d)
by_differences op.Greater wanted d e = if wanted then AtLeast (less_one d) else AtLeast e
by_differences op.GreaterEqual wanted d e = if wanted then AtLeast d else AtLeast (less_one e)
by_differences o wanted d e = Any []

-- the truth value that an operand spells out, where the operator tests for equality
abbrev pub spelled_in : Operator → Tree → Option Bool
spelled_in op.Equal x = truth_in x
spelled_in op.NotEqual x = truth_in x
spelled_in o x = None

-- which answer of the other side is wanted, where one side is spelled
abbrev pub agreed : Operator → Bool → Bool → Bool
agreed op.NotEqual wanted truth = agree (not wanted) truth
agreed o wanted truth = agree wanted truth

-- whether the fact of `and` or `or` is all of the operands' facts
abbrev pub takes_all : Operator → Bool → Bool
takes_all op.Or wanted = not wanted
takes_all o wanted = wanted

-- the divisions of a First or a Size and its sum stay within the path limit
abbrev pub aspect_within : List Formed → ℕ → Option Tree → Linear → Bool
aspect_within fields n x f = nat_le (n + divisions_in_any x) 190 && (all_kept (met_any fields n x) && is_low f)

module _ (limit : ℕ → ℕ) (fields : List Formed) where
  -- the divisions are behind those before, and all stays within the path limit
  pub record Goes (x : Tree) (old new : Work) : Type 0 where
    pub next : new.next ≡ old.next + divisions_in x
    pub rows : new.rows ≡ old.rows ++ divisions limit fields old.next x
    pub within : is_within fields old.next x ≡ true

  pub record HasSum (x : Tree) (old new : Work) (f : Linear) : Type 0 where
    pub value : f ≡ linear fields old.next x
    pub goes : Goes x old new

  -- two operands, and a comparison of their sums
  pub record HasComparison (o : Operator) (wanted : Bool) (a b : Tree) (old new : Work) (f : Form) : Type 0 where
    pub value : f ≡ comparison o wanted (linear fields old.next a) (linear fields (old.next + divisions_in a) b)
    pub next : new.next ≡ old.next + (divisions_in a + divisions_in b)
    pub rows : new.rows ≡ old.rows ++ (divisions limit fields old.next a ++ divisions limit fields (old.next + divisions_in a) b)
    pub within : sides_within fields old.next a b ≡ true

  pub record HasFact (wanted : Bool) (x : Tree) (old new : Work) (f : Form) : Type 0 where
    pub value : f ≡ condition fields old.next wanted x
    pub goes : Goes x old new

  -- ---- a First or a Size, if it is said, else another sum

  pub record HasAspect (x : Option Tree) (otherwise : Linear) (old new : Work) (f : Linear) : Type 0 where
    pub value : f ≡ form_or x fields old.next otherwise
    pub next : new.next ≡ old.next + divisions_in_any x
    pub rows : new.rows ≡ old.rows ++ divisions_any limit fields old.next x
    pub within : aspect_within fields old.next x (form_or x fields old.next otherwise) ≡ true

-- the Size of a field that does not say it: that of its type, else the rest of the message behind its First
abbrev pub size_otherwise : Option Domain → Linear → Linear
size_otherwise (Some t) first = constant (pos (size_of t))
size_otherwise None first = minus bits first

-- the variable of a field's number, if it is a scalar
abbrev pub number_at : Option Domain → ℕ → Linear
number_at (Some t) scalar = term (pos 1) scalar (pos 0)
number_at None scalar = constant (pos 0)
