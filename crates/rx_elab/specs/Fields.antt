-- The types of a message's fields.
--   field_held t p withs i f   what a field of package p holds; UnknownName and WrongType at the name of its type
use Rattle.std.specs.Prelude.{ℕ, List, Ok}
use Rattle.rx_syntax.specs.declared.tree.Named.{Named}
use Rattle.rx_syntax.specs.declared.tree.FieldTree.{FieldTree}
use Rattle.rx_syntax.specs.declared.rule.Rule.TheVariants as rule
use Rattle.rx_judge.specs.Meaning.{Meaning, ◌>>=◌, refused_at}
use Rattle.rx_judge.specs.Table.{Entry}
use Rattle.rx_elab.specs.Types.{type_named}
use Rattle.rx_elab.specs.declared.types.KnownType.{KnownType}
use Rattle.rx_elab.specs.declared.types.KnownType.TheVariants as known_type
use Rattle.rx_elab.specs.declared.fields.Held.{Held}
use Rattle.rx_elab.specs.declared.fields.Held.TheVariants as holds

-- a field holds a scalar or bytes; any other type is WrongType at its name
abbrev pub held_as : Named → KnownType → Meaning Held
held_as name (known_type.Scalar s) = Ok (holds.Scalar s)
held_as name known_type.Opaque = Ok holds.Opaque
held_as name known_type.Other = refused_at rule.WrongType name

abbrev pub field_held : List (Entry KnownType) → List ℕ → List Named → ℕ → FieldTree → Meaning Held
field_held types p withs i f = type_named types p withs f.kind >>= held_as f.kind.name
