-- Expressions and scalar types as plain data, by which a proof tells two of them apart.
--   Word, spelled, read_back    an expression as a list of words, each operator behind its operands, and back
--   tree_code, domain_code      the codes of expressions and of scalar types
--   field_type_code             the code of what a field holds
use Rattle.std.specs.Prelude.{◌≡◌, refl, ℕ, ℤ, Bool, true, false, List, [], ◌∷◌, ◌++◌, ◌⊎◌, Option, Some, None}
use Rattle.std.proofs.Common.{ap, ◌∙◌, inl, inr}
use Rattle.std.specs.Coded.{Coded, code_by, coded_ℕ, coded_ℤ, coded_bool, coded_list, coded_option, coded×, coded⊎}
use Rattle.rx_types.specs.declared.expr.Operator.{Operator}
use Rattle.rx_types.specs.declared.expr.Operator.TheVariants as op
use Rattle.rx_types.specs.declared.scalar.Literal.{Literal}
use Rattle.rx_types.specs.declared.scalar.FieldType.{FieldType}
use Rattle.rx_types.specs.declared.scalar.FieldType.TheVariants as holds
use Rattle.rx_types.specs.Domain.{Domain, Integer, Enumeration}
use Rattle.rx_types.specs.Tree.{Tree, Number, Truth, Field, First, Last, Size, Total, Neg, Not, Binary}

-- ---- operators, by four bits

-- four truth values
abbrev pub Bits : Type 0
Bits = Bool × (Bool × (Bool × Bool))

-- an operator as four bits: its place among the thirteen, counted from 0
abbrev pub bits_of : Operator → Bits
bits_of op.Add = (false, (false, (false, false)))
bits_of op.Sub = (false, (false, (false, true)))
bits_of op.Mul = (false, (false, (true, false)))
bits_of op.Div = (false, (false, (true, true)))
bits_of op.Mod = (false, (true, (false, false)))
bits_of op.And = (false, (true, (false, true)))
bits_of op.Or = (false, (true, (true, false)))
bits_of op.Equal = (false, (true, (true, true)))
bits_of op.NotEqual = (true, (false, (false, false)))
bits_of op.Less = (true, (false, (false, true)))
bits_of op.LessEqual = (true, (false, (true, false)))
bits_of op.Greater = (true, (false, (true, true)))
bits_of op.GreaterEqual = (true, (true, (true, true)))

-- the operator of four bits; the last one where no operator has them
abbrev pub operator_by : Bool → Bool → Bool → Bool → Operator
operator_by false false false false = op.Add
operator_by false false false true = op.Sub
operator_by false false true false = op.Mul
operator_by false false true true = op.Div
operator_by false true false false = op.Mod
operator_by false true false true = op.And
operator_by false true true false = op.Or
operator_by false true true true = op.Equal
operator_by true false false false = op.NotEqual
operator_by true false false true = op.Less
operator_by true false true false = op.LessEqual
operator_by true false true true = op.Greater
operator_by true true a b = op.GreaterEqual

-- the operator that four bits stand for
abbrev pub operator_of : Bits → Operator
operator_of b = operator_by b.0 b.1.0 b.1.1.0 b.1.1.1

-- an operator is the one that its bits stand for
pub operator_back : (o : Operator) → operator_of (bits_of o) ≡ o
operator_back op.Add = refl
operator_back op.Sub = refl
operator_back op.Mul = refl
operator_back op.Div = refl
operator_back op.Mod = refl
operator_back op.And = refl
operator_back op.Or = refl
operator_back op.Equal = refl
operator_back op.NotEqual = refl
operator_back op.Less = refl
operator_back op.LessEqual = refl
operator_back op.Greater = refl
operator_back op.GreaterEqual = refl

-- the code of operators
abbrev pub operator_code : Coded Operator
operator_code = code_by Bits (coded× coded_bool (coded× coded_bool (coded× coded_bool coded_bool))) bits_of operator_of operator_back

-- ---- expressions

-- a step of an expression that is written with its operators behind their operands
pub data Word : Type 0 where
  number : ℤ → Word
  truth : Bool → Word
  field : ℕ → Word
  «first» : ℕ → Word
  last : ℕ → Word
  size : ℕ → Word
  total : Word
  negate : Word
  invert : Word
  join : Operator → Word

-- a word as a sum: what has a number, what has a truth value, what has a field, what has nothing, what has an operator
abbrev pub Sum : Type 0
Sum = ℤ ⊎ (Bool ⊎ ((Bool × (Bool × ℕ)) ⊎ (Option Bool ⊎ Operator)))

-- a word, by what it has
abbrev pub sum_of : Word → Sum
sum_of (number z) = inl z
sum_of (truth b) = inr (inl b)
sum_of (field f) = inr (inr (inl (false, (false, f))))
sum_of («first» f) = inr (inr (inl (false, (true, f))))
sum_of (last f) = inr (inr (inl (true, (false, f))))
sum_of (size f) = inr (inr (inl (true, (true, f))))
sum_of total = inr (inr (inr (inl None)))
sum_of negate = inr (inr (inr (inl (Some false))))
sum_of invert = inr (inr (inr (inl (Some true))))
sum_of (join o) = inr (inr (inr (inr o)))

-- the word that names a field: whether it asks for an end that is not the first, and which of two
abbrev pub with_field : Bool → Bool → ℕ → Word
with_field false false f = field f
with_field false true f = «first» f
with_field true false f = last f
with_field true true f = size f

-- the word that has nothing but itself
abbrev pub with_nothing : Option Bool → Word
with_nothing None = total
with_nothing (Some false) = negate
with_nothing (Some true) = invert

-- the word of what it has
abbrev pub word_of : Sum → Word
word_of (inl z) = number z
word_of (inr (inl b)) = truth b
word_of (inr (inr (inl p))) = with_field p.0 p.1.0 p.1.1
word_of (inr (inr (inr (inl o)))) = with_nothing o
word_of (inr (inr (inr (inr o)))) = join o

-- a word is the one of what it has
pub word_back : (w : Word) → word_of (sum_of w) ≡ w
word_back (number z) = refl
word_back (truth b) = refl
word_back (field f) = refl
word_back («first» f) = refl
word_back (last f) = refl
word_back (size f) = refl
word_back total = refl
word_back negate = refl
word_back invert = refl
word_back (join o) = refl

-- the code of words
abbrev pub word_code : Coded Word
word_code = code_by Sum (coded⊎ coded_ℤ (coded⊎ coded_bool (coded⊎ (coded× coded_bool (coded× coded_bool coded_ℕ)) (coded⊎ (coded_option coded_bool) operator_code)))) sum_of word_of word_back

-- an expression as words, each operator behind its operands
abbrev pub spelled : Tree → List Word
spelled (Number n) = number n ∷ []
spelled (Truth b) = truth b ∷ []
spelled (Field f) = field f ∷ []
spelled (First f) = «first» f ∷ []
spelled (Last f) = last f ∷ []
spelled (Size f) = size f ∷ []
spelled Total = total ∷ []
spelled (Neg a) = spelled a ++ negate ∷ []
spelled (Not a) = spelled a ++ invert ∷ []
spelled (Binary o a b) = spelled a ++ (spelled b ++ join o ∷ [])

-- a word takes its operands from the stack
abbrev pub step : Word → List Tree → List Tree
step (number n) s = Number n ∷ s
step (truth b) s = Truth b ∷ s
step (field f) s = Field f ∷ s
step («first» f) s = First f ∷ s
step (last f) s = Last f ∷ s
step (size f) s = Size f ∷ s
step total s = Total ∷ s
step negate [] = []
step negate (a ∷ s) = Neg a ∷ s
step invert [] = []
step invert (a ∷ s) = Not a ∷ s
step (join o) [] = []
step (join o) (b ∷ []) = []
step (join o) (b ∷ a ∷ s) = Binary o a b ∷ s

-- the stack behind some words
abbrev pub run : List Word → List Tree → List Tree
run [] s = s
run (w ∷ ws) s = run ws (step w s)

-- the uppermost expression of a stack
abbrev pub top : List Tree → Tree
top [] = Total
top (t ∷ s) = t

-- words that follow others go on with the stack of these
pub in_turn : (xs ys : List Word) (s : List Tree) → run (xs ++ ys) s ≡ run ys (run xs s)
in_turn [] ys s = refl
in_turn (x ∷ xs) ys s = in_turn xs ys (step x s)

-- the words of an expression put it on the stack
pub read_back : (t : Tree) (s : List Tree) → run (spelled t) s ≡ t ∷ s
read_back (Number n) s = refl
read_back (Truth b) s = refl
read_back (Field f) s = refl
read_back (First f) s = refl
read_back (Last f) s = refl
read_back (Size f) s = refl
read_back Total s = refl
read_back (Neg a) s = in_turn (spelled a) (negate ∷ []) s ∙ ap (λ (x : List Tree). step negate x) (read_back a s)
read_back (Not a) s = in_turn (spelled a) (invert ∷ []) s ∙ ap (λ (x : List Tree). step invert x) (read_back a s)
read_back (Binary o a b) s =
    in_turn (spelled a) (spelled b ++ join o ∷ []) s
    ∙ (ap (λ (x : List Tree). run (spelled b ++ join o ∷ []) x) (read_back a s)
    ∙ (in_turn (spelled b) (join o ∷ []) (a ∷ s)
    ∙ ap (λ (x : List Tree). step (join o) x) (read_back b (a ∷ s))))

-- the code of expressions
abbrev pub tree_code : Coded Tree
tree_code = code_by (List Word) (coded_list word_code) spelled (λ ws. top (run ws [])) (λ t. ap top (read_back t []))

-- ---- scalar types, and what fields hold

-- the code of literals
abbrev pub literal_code : Coded Literal
literal_code = code_by (List ℕ × ℕ) (coded× (coded_list coded_ℕ) coded_ℕ) (λ l. (l.name, l.number)) (λ p. record { name = p.0; number = p.1 }) (λ _. refl)

-- a scalar type as plain data: bounds and size of an integer type, or literals, size and whether all numbers are taken
abbrev pub Numbers : Type 0
Numbers = (ℕ × (ℕ × ℕ)) ⊎ (List Literal × (ℕ × Bool))

-- a scalar type as plain data
abbrev pub numbers_in : Domain → Numbers
numbers_in (Integer low high bits) = inl (low, (high, bits))
numbers_in (Enumeration literals bits every) = inr (literals, (bits, every))

-- the scalar type of plain data
abbrev pub domain_by : Numbers → Domain
domain_by (inl p) = Integer p.0 p.1.0 p.1.1
domain_by (inr p) = Enumeration p.0 p.1.0 p.1.1

-- a scalar type is the one of its plain data
pub domain_back : (t : Domain) → domain_by (numbers_in t) ≡ t
domain_back (Integer low high bits) = refl
domain_back (Enumeration literals bits every) = refl

-- the code of scalar types
abbrev pub domain_code : Coded Domain
domain_code = code_by Numbers (coded⊎ (coded× coded_ℕ (coded× coded_ℕ coded_ℕ)) (coded× (coded_list literal_code) (coded× coded_ℕ coded_bool))) numbers_in domain_by domain_back

-- what a field holds: nothing that is numbered, or whether it is a scalar, and the number of its type
abbrev pub held_in : FieldType → Option (Bool × ℕ)
held_in holds.Opaque = None
held_in (holds.Scalar t) = Some (true, t)
held_in (holds.Sequence t) = Some (false, t)

-- a scalar or a sequence of the type of that number
abbrev pub held_as : Bool → ℕ → FieldType
held_as true t = holds.Scalar t
held_as false t = holds.Sequence t

-- what a field holds, from whether it is a scalar, and the number of its type
abbrev pub field_type_by : Option (Bool × ℕ) → FieldType
field_type_by None = holds.Opaque
field_type_by (Some p) = held_as p.0 p.1

-- what a field holds is what its plain data say
pub field_type_back : (t : FieldType) → field_type_by (held_in t) ≡ t
field_type_back holds.Opaque = refl
field_type_back (holds.Scalar t) = refl
field_type_back (holds.Sequence t) = refl

-- the code of what a field holds
abbrev pub field_type_code : Coded FieldType
field_type_code = code_by (Option (Bool × ℕ)) (coded_option (coded× coded_bool coded_ℕ)) held_in field_type_by field_type_back
