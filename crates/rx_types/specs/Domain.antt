-- Scalar types without their places in memory.
--   Domain                a scalar type
--   domain_of scalar      what a scalar type of the code is
--   size_of t             the size in bits
--   IsNumberOf t n        the number is one of the type's
--   greatest_of t         the greatest number of the type
--   IsProper t            a scalar type as it may be declared
--   boolean               the built-in type Boolean
use Rattle.std.specs.Prelude.{◌≡◌, ◌≢◌, ℕ, ◌-◌, ◌^◌, ◌<◌, ◌≤◌, max, Bool, true, false, List, [], ◌∷◌, length, codes}
use Rattle.std.specs.List.{Contains, AllByRecursion}
use Rattle.rx_types.specs.Names.{IsSameName}
use Rattle.rx_types.specs.declared.scalar.Literal.{Literal}
use Rattle.rx_types.specs.declared.scalar.ScalarType.{ScalarType}
use Rattle.rx_types.specs.declared.scalar.ScalarType.TheVariants as code

pub data Domain : Type 0 where
  -- all numbers from the first to the last, and the size
  Integer : ℕ → ℕ → ℕ → Domain
  -- literals, the size, and whether every number of the size is valid
  Enumeration : List Literal → ℕ → Bool → Domain

abbrev pub domain_of : ScalarType → Domain
domain_of (code.Integer first last size) = Integer first last size
domain_of (code.Enumeration literals size always_valid) = Enumeration literals.items size always_valid

abbrev pub size_of : Domain → ℕ
size_of (Integer first last size) = size
size_of (Enumeration literals size always_valid) = size

abbrev pub numbers_of : List Literal → List ℕ
numbers_of [] = []
numbers_of (l ∷ ls) = l.number ∷ numbers_of ls

-- every number of the size where the enumeration is always valid, else those of its literals
abbrev pub IsLiteral : List Literal → ℕ → Bool → ℕ → Type 0
IsLiteral literals size true n = n < 2 ^ size
IsLiteral literals size false n = (literal : Literal) × Contains literals literal × (literal.number ≡ n)

abbrev pub IsNumberOf : Domain → ℕ → Type 0
IsNumberOf (Integer first last size) n = (first ≤ n) × (n ≤ last)
IsNumberOf (Enumeration literals size always_valid) n = IsLiteral literals size always_valid n

abbrev pub greatest : List ℕ → ℕ
greatest [] = 0
greatest (n ∷ ns) = max n (greatest ns)

abbrev pub greatest_literal : List Literal → ℕ → Bool → ℕ
greatest_literal literals size true = 2 ^ size - 1
greatest_literal literals size false = greatest (numbers_of literals)

abbrev pub greatest_of : Domain → ℕ
greatest_of (Integer first last size) = last
greatest_of (Enumeration literals size always_valid) = greatest_literal literals size always_valid

-- the relation holds of each element and each later one
abbrev pub EachPair : {A : Type 0} → (A → A → Type 0) → List A → Type 0
EachPair R [] = Unit {0}
EachPair R (x ∷ xs) = AllByRecursion (λ y. R x y) xs × EachPair R xs

-- two literals with different names and numbers
pub record Differ (a b : Literal) : Type 0 where
  pub names : IsSameName a.name b.name → ⊥
  pub numbers : a.number ≢ b.number

-- at least one literal, all of them different, and each number below 2 to the size
pub record AreLiterals (literals : List Literal) (size : ℕ) : Type 0 where
  pub some : 0 < length literals
  pub below : AllByRecursion (λ l. l.number < 2 ^ size) literals
  pub differ : EachPair Differ literals

-- a scalar type as it may be declared: 1 to 63 bits, and numbers of that size
abbrev pub IsProper : Domain → Type 0
IsProper (Integer first last size) = (0 < size) × (size < 64) × (first ≤ last) × (last < 2 ^ size)
IsProper (Enumeration literals size always_valid) = (0 < size) × (size < 64) × AreLiterals literals size

-- False is 0 and True is 1, in one bit
abbrev pub boolean : Domain
boolean =
    let no : Literal = record { name = codes "False"; number = 0 } in
    let yes : Literal = record { name = codes "True"; number = 1 } in
    Enumeration (no ∷ yes ∷ []) 1 false
