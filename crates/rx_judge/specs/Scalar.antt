-- What the definition of a scalar type means.
--   static_value owner e          the value of an expression of numbers alone
--   definition name def           the scalar type that a definition defines, if it defines one
--   IsMeasured d                  its numbers are those of its size, which is 1 to 63 bits
use Rattle.std.specs.Prelude.{◌≢◌, ℕ, ◌-◌, ◌^◌, ◌<◌, ◌≤◌, length, Bool, true, false, not, ◌&&◌, List, [], ◌∷◌, Option, Some, None, Ok, if◌then◌else◌, ℤ, pos, int_lt, int_le, nat_abs, slice_get}
use Rattle.std.specs.List.{list_all, list_any, AllByRecursion}
use Rattle.std.specs.Ordering.{int_eq}
use Rattle.rx_syntax.specs.declared.token.Place.{Place}
use Rattle.rx_syntax.specs.declared.tree.Named.{Named}
use Rattle.rx_syntax.specs.declared.tree.ExprTree.{ExprTree}
use Rattle.rx_syntax.specs.declared.tree.ExprTree.TheVariants as tree
use Rattle.rx_syntax.specs.declared.tree.LiteralTree.{LiteralTree}
use Rattle.rx_syntax.specs.declared.tree.EnumAspect.{EnumAspect}
use Rattle.rx_syntax.specs.declared.tree.EnumAspect.TheVariants as aspect
use Rattle.rx_syntax.specs.declared.tree.DefTree.{DefTree}
use Rattle.rx_syntax.specs.declared.tree.DefTree.TheVariants as def
use Rattle.rx_syntax.specs.declared.rule.Rule.TheVariants as rule
use Rattle.rx_types.specs.declared.scalar.Literal.{Literal}
use Rattle.rx_types.specs.Domain.{Domain, Integer, Enumeration, EachPair}
use Rattle.rx_types.specs.Names.{is_name_byte}
use Rattle.rx_judge.specs.Meaning.{Meaning, ◌>>=◌, refused_at, refused, each_from}
use Rattle.rx_judge.specs.Names.{Nothing}
use Rattle.rx_judge.specs.Kinds.{is_number}
use Rattle.rx_judge.specs.Judged.{judged}

-- the place of the outermost operator, or of the leaf
abbrev pub root_place : ExprTree → Place
root_place (tree.Number z p) = p
root_place (tree.Name n) = n.name.place
root_place (tree.Attribute n a) = n.name.place
root_place (tree.Member n f) = n.name.place
root_place (tree.Neg' p q e) = p
root_place (tree.Not' p q e) = p
root_place (tree.Binary' o p q a s b) = p

-- a declared word that is no name names nothing
abbrev pub spelled : Named → Meaning (List ℕ)
spelled n = if list_all is_name_byte n.word then Ok n.word else refused_at rule.UnknownName n

-- the value of an expression of numbers alone; WrongType at its root where it is no number
abbrev pub static_value : List ℕ → ExprTree → Meaning ℤ
static_value owner e = do
  x ← judged Nothing owner e
  if is_number x.about.kind then Ok x.about.interval.low else refused rule.WrongType (root_place e) owner

-- ---- integers

abbrev pub is_size : ℤ → Bool
is_size z = int_le (pos 1) z && int_le z (pos 63)

abbrev pub unsigned : Named → ExprTree → Meaning Domain
unsigned name e = do
  n ← static_value name.word e
  if is_size n then Ok (Integer 0 (2 ^ nat_abs n - 1) (nat_abs n)) else refused_at rule.BadRange name

-- 0 <= a <= b <= 2 ^ n - 1
abbrev pub is_range : ℤ → ℤ → ℤ → Bool
is_range a b n = is_size n && int_le (pos 0) a && int_le a b && int_lt b (pos (2 ^ nat_abs n))

abbrev pub range : Named → ExprTree → ExprTree → ExprTree → Meaning Domain
range name first last size = do
  a ← static_value name.word first
  b ← static_value name.word last
  n ← static_value name.word size
  if is_range a b n then Ok (Integer (nat_abs a) (nat_abs b) (nat_abs n)) else refused_at rule.BadRange name

-- ---- enumerations

-- a literal without a number has its place
abbrev pub number_or_place : List ℕ → ℕ → Option ExprTree → Meaning ℤ
number_or_place owner i None = Ok (pos i)
number_or_place owner i (Some e) = static_value owner e

abbrev pub number_of_literal : List ℕ → ℕ → LiteralTree → Meaning ℤ
number_of_literal owner i l = number_or_place owner i l.number

abbrev pub numbers_of : List ℕ → List LiteralTree → Meaning (List ℤ)
numbers_of owner ls = each_from (number_of_literal owner) 0 ls

-- what an aspect says of the size
abbrev pub size_of_aspect : List ℕ → EnumAspect → Meaning (Option ℤ)
size_of_aspect owner (aspect.Size p e) = static_value owner e >>= (λ z. Ok (Some z))
size_of_aspect owner (aspect.AlwaysValid p b) = Ok None

abbrev pub size_of_aspects : List ℕ → List EnumAspect → Meaning (List (Option ℤ))
size_of_aspects owner xs = each_from (λ i a. size_of_aspect owner a) 0 xs

abbrev pub first_some : List (Option ℤ) → Option ℤ
first_some [] = None
first_some (Some z ∷ zs) = Some z
first_some (None ∷ zs) = first_some zs

abbrev pub always_valid : List EnumAspect → Bool
always_valid [] = false
always_valid (aspect.Size p e ∷ xs) = always_valid xs
always_valid (aspect.AlwaysValid p b ∷ xs) = b

abbrev pub are_numbers : ℤ → List ℤ → Bool
are_numbers n zs = list_all (λ z. int_le (pos 0) z && int_lt z (pos (2 ^ nat_abs n))) zs

abbrev pub is_among : ℤ → List ℤ → Bool
is_among z zs = list_any (λ y. int_eq z y) zs

-- no number stands twice
abbrev pub is_distinct : List ℤ → Bool
is_distinct [] = true
is_distinct (z ∷ zs) = not (is_among z zs) && is_distinct zs

-- MissingSize where there is none
abbrev pub given : {A : Type 0} → Named → Option A → Meaning A
given name None = refused_at rule.MissingSize name
given name (Some a) = Ok a

abbrev pub number_at : Option ℤ → ℕ
number_at None = 0
number_at (Some z) = nat_abs z

abbrev pub literal_at : List ℤ → ℕ → LiteralTree → Meaning Literal
literal_at zs i l = spelled l.name >>= (λ w. Ok (record { name = w; number = number_at (slice_get zs i) }))

abbrev pub is_some_list : {A : Type 0} → List A → Bool
is_some_list [] = false
is_some_list (x ∷ xs) = true

-- at least one literal, and numbers of the size, no two the same
abbrev pub are_literals : ℤ → List ℤ → Bool
are_literals n zs = is_size n && is_some_list zs && are_numbers n zs && is_distinct zs

abbrev pub enumeration : Named → List LiteralTree → List EnumAspect → Meaning Domain
enumeration name ls xs = do
  zs ← numbers_of name.word ls
  sizes ← size_of_aspects name.word xs
  n ← given name (first_some sizes)
  if are_literals n zs then (each_from (literal_at zs) 0 ls >>= (λ literals. Ok (Enumeration literals (nat_abs n) (always_valid xs)))) else refused_at rule.BadRange name

-- the scalar type of a definition, if it is one
abbrev pub definition : Named → DefTree → Meaning (Option Domain)
definition name (def.Unsigned e) = unsigned name e >>= (λ s. Ok (Some s))
definition name (def.Range a b n) = range name a b n >>= (λ s. Ok (Some s))
definition name (def.Enumeration ls xs) = enumeration name ls.items xs.items >>= (λ s. Ok (Some s))
definition name other = Ok None

-- at least one literal, each with a number of its own below 2 to the size
pub record AreMeasured (literals : List Literal) (size : ℕ) : Type 0 where
  pub some : 0 < length literals
  pub below : AllByRecursion (λ l. l.number < 2 ^ size) literals
  pub numbers : EachPair (λ a b. a.number ≢ b.number) literals

abbrev pub IsMeasured : Domain → Type 0
IsMeasured (Integer first last size) = (0 < size) × (size < 64) × (first ≤ last) × (last < 2 ^ size)
IsMeasured (Enumeration literals size always_valid) = (0 < size) × (size < 64) × AreMeasured literals size
