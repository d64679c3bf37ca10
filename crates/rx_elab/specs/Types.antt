-- The second pass: scalar types, with the names of all types and literals.
--   Types                       what is known of types so far
--   type_declared p t d         the same after declaration d of package p
--   package_types t p           the same after a package
--   type_named t p withs n      what the type name n stands for in package p; UnknownName where it stands for nothing
use Rattle.std.specs.Prelude.{ℕ, ◌||◌, Bool, List, [], ◌∷◌, ◌++◌, length, Option, Some, None, Ok, codes, if◌then◌else◌}
use Rattle.std.specs.List.{list_any}
use Rattle.std.specs.Option.{option_or}
use Rattle.rx_syntax.specs.declared.tree.Named.{Named}
use Rattle.rx_syntax.specs.declared.tree.NameTree.{NameTree}
use Rattle.rx_syntax.specs.declared.tree.DefTree.{DefTree}
use Rattle.rx_syntax.specs.declared.tree.DeclTree.{DeclTree}
use Rattle.rx_syntax.specs.declared.tree.DeclKind.{DeclKind}
use Rattle.rx_syntax.specs.declared.tree.DeclKind.TheVariants as decl
use Rattle.rx_syntax.specs.declared.tree.PackageTree.{PackageTree}
use Rattle.rx_syntax.specs.declared.rule.Rule.TheVariants as rule
use Rattle.rx_types.specs.declared.kind.Kind.{Kind}
use Rattle.rx_types.specs.declared.kind.Kind.TheVariants as kind
use Rattle.rx_types.specs.declared.scalar.Literal.{Literal}
use Rattle.rx_types.specs.Domain.{Domain, Integer, Enumeration, size_of, greatest_of, boolean}
use Rattle.rx_graph.specs.Graph.{NamedDomain, named_domain_of}
use Rattle.std.specs.Prelude.{map}
use Rattle.rx_judge.specs.Meaning.{Meaning, ◌>>=◌, refused_at}
use Rattle.rx_judge.specs.Names.{same, known}
use Rattle.rx_judge.specs.Scalar.{definition, spelled}
use Rattle.rx_judge.specs.Table.{Entry, added, found}
use Rattle.rx_judge.specs.declared.names.KnownLiteral.{KnownLiteral}
use Rattle.rx_elab.specs.Through.{through}
use Rattle.rx_elab.specs.declared.types.KnownScalar.{KnownScalar}
use Rattle.rx_elab.specs.declared.types.KnownType.{KnownType}
use Rattle.rx_elab.specs.declared.types.KnownType.TheVariants as known_type
use Rattle.rx_elab.specs.declared.types.Types as code

-- the scalar types in order, what the names of types stand for, and the literals
pub record Types : Type 0 where
  pub scalars : List NamedDomain
  pub types : List (Entry KnownType)
  pub literals : List (Entry KnownLiteral)

-- the kind of a declared type's numbers in expressions
abbrev pub kind_declared : ℕ → Domain → Kind
kind_declared id (Integer first last size) = kind.Number
kind_declared id (Enumeration literals size always_valid) = kind.Of id

abbrev pub known_scalar : ℕ → Domain → KnownScalar
known_scalar id d = record { id = id; kind = kind_declared id d; greatest = greatest_of d; size = size_of d }

abbrev pub with_literals : List (Entry KnownLiteral) → List ℕ → ℕ → List Literal → List (Entry KnownLiteral)
with_literals table p id [] = table
with_literals table p id (l ∷ ls) = with_literals (added table p l.name (record { kind = id; number = l.number })) p id ls

abbrev pub with_literals_of : List (Entry KnownLiteral) → List ℕ → ℕ → Domain → List (Entry KnownLiteral)
with_literals_of table p id (Integer first last size) = table
with_literals_of table p id (Enumeration literals size always_valid) = with_literals table p id literals

-- a scalar type more; its id is its place among all
abbrev pub with_scalar : List ℕ → Types → List ℕ → Domain → Types
with_scalar p t w d =
    let id = length t.scalars in
    record {
      scalars = t.scalars ++ record { «package» = p; name = w; domain = d } ∷ [];
      types = added t.types p w (known_type.Scalar (known_scalar id d));
      literals = with_literals_of t.literals p id d;
    }

-- a type that is no scalar
abbrev pub with_other : List ℕ → Types → List ℕ → Types
with_other p t w = record t { types = added t.types p w known_type.Other }

abbrev pub with_definition : List ℕ → Types → List ℕ → Option Domain → Types
with_definition p t w None = with_other p t w
with_definition p t w (Some d) = with_scalar p t w d

-- a definition is judged, and its name is one
abbrev pub defined : List ℕ → Types → Named → DefTree → Meaning Types
defined p t name def = do
  d ← definition name def
  w ← spelled name
  Ok (with_definition p t w d)

abbrev pub kind_typed : List ℕ → Types → DeclKind → Meaning Types
kind_typed p t (decl.Refine r) = Ok t
kind_typed p t (decl.Defined name def) = defined p t name def

abbrev pub type_declared : List ℕ → Types → DeclTree → Meaning Types
type_declared p t d = kind_typed p t d.kind

abbrev pub package_types : Types → PackageTree → Meaning Types
package_types t p = do
  w ← spelled p.header.name
  through (type_declared w) t p.decls.items

-- Boolean is the first scalar type, and Opaque is no scalar.
abbrev pub built_in_types : Types
built_in_types =
    let boolean_type = known_type.Scalar (record { id = 0; kind = kind.Truth; greatest = 1; size = 1 }) in
    record {
      scalars = record { «package» = []; name = codes "Boolean"; domain = boolean } ∷ [];
      types = added (added [] [] (codes "Boolean") boolean_type) [] (codes "Opaque") known_type.Opaque;
      literals = [];
    }

-- ---- names of types

-- a name alone is the package's own, or built in
abbrev pub own_type : List (Entry KnownType) → List ℕ → List ℕ → Option KnownType
own_type table p w = option_or (found table p w) (found table [] w)

abbrev pub is_visible_in : List ℕ → List Named → List ℕ → Bool
is_visible_in p withs q = same p q || list_any (λ n. same n.word q) withs

abbrev pub type_in : List (Entry KnownType) → List ℕ → List Named → Option Named → Named → Meaning KnownType
type_in table p withs None name = known name (own_type table p name.word)
type_in table p withs (Some q) name = if is_visible_in p withs q.word then known name (found table q.word name.word) else refused_at rule.UnknownName q

abbrev pub type_named : List (Entry KnownType) → List ℕ → List Named → NameTree → Meaning KnownType
type_named table p withs n = type_in table p withs n.«package» n.name

-- ---- what the code keeps

abbrev pub types_of : code.Types → Types
types_of t = record { scalars = map named_domain_of t.scalars.items; types = t.types; literals = t.literals }
