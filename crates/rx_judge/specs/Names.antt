-- What names stand for in an expression.
--   Scope, Names           the names that an expression may use
--   thing_of s n           what a name stands for, or the refusal of what stands for nothing
use Rattle.std.specs.Prelude.{ℕ, Bool, true, false, ◌||◌, List, [], Option, Some, None, Ok, codes, if◌then◌else◌}
use Rattle.std.specs.List.{list_any}
use Rattle.std.specs.Option.{option_or, option_map}
use Rattle.std.specs.Str.{str_eq_ignore_ascii_case}
use Rattle.rx_syntax.specs.declared.tree.Named.{Named}
use Rattle.rx_syntax.specs.declared.tree.NameTree.{NameTree}
use Rattle.rx_syntax.specs.declared.rule.Rule.TheVariants as rule
use Rattle.rx_judge.specs.Meaning.{Meaning, refused_at}
use Rattle.rx_judge.specs.Table.{Entry, found}
use Rattle.rx_judge.specs.declared.names.KnownField.{KnownField}
use Rattle.rx_judge.specs.declared.names.KnownLiteral.{KnownLiteral}
use Rattle.rx_judge.specs.declared.names.Thing.{Thing}
use Rattle.rx_judge.specs.declared.names.Thing.TheVariants as thing
use Rattle.rx_judge.specs.declared.names.Scope as code
use Rattle.rx_judge.specs.declared.names.Names as codes_names
use Rattle.rx_judge.specs.declared.names.Names.TheVariants as code_names

-- the package of the expression, those that it may name, the fields of its message, and the literals of all packages
pub record Scope : Type 0 where
  pub «package» : List ℕ
  pub withs : List Named
  pub fields : List (Entry KnownField)
  pub literals : List (Entry KnownLiteral)

pub data Names : Type 0 where
  -- numbers alone
  Nothing : Names
  Within : Scope → Names

-- the same but for ASCII case
abbrev pub same : List ℕ → List ℕ → Bool
same a b = str_eq_ignore_ascii_case a b

abbrev pub field_named : Scope → List ℕ → Option Thing
field_named s w = option_map (λ f. thing.Field f) (found s.fields [] w)

abbrev pub literal_named : Scope → List ℕ → List ℕ → Option Thing
literal_named s p w = option_map (λ l. thing.Literal l) (found s.literals p w)

abbrev pub truth_named : List ℕ → Option Thing
truth_named w = if same w (codes "True") then Some (thing.Truth true) else (if same w (codes "False") then Some (thing.Truth false) else None)

-- a name alone is first a field, then a literal of the package, then True or False
abbrev pub own_thing : Scope → List ℕ → Option Thing
own_thing s w = option_or (field_named s w) (option_or (literal_named s s.«package» w) (truth_named w))

-- the package itself, or one that it names in its `with` clauses
abbrev pub is_visible : Scope → List ℕ → Bool
is_visible s q = same s.«package» q || list_any (λ n. same n.word q) s.withs

-- the thing, if there is one; UnknownName at the name where there is none
abbrev pub known : {A : Type 0} → Named → Option A → Meaning A
known name None = refused_at rule.UnknownName name
known name (Some x) = Ok x

abbrev pub thing_in : Scope → Option Named → Named → Meaning Thing
thing_in s None name = known name (own_thing s name.word)
thing_in s (Some q) name = if is_visible s q.word then known name (literal_named s q.word name.word) else refused_at rule.UnknownName q

abbrev pub thing_of : Scope → NameTree → Meaning Thing
thing_of s n = thing_in s n.«package» n.name

-- ---- what the code keeps

abbrev pub scope_of : code.Scope → Scope
scope_of s = record { «package» = s.«package».now; withs = s.withs.now; fields = s.fields.now; literals = s.literals.now }

abbrev pub names_of : codes_names.Names → Names
names_of code_names.Nothing = Nothing
names_of (code_names.Within s) = Within (scope_of s)
