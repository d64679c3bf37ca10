-- Fields and literals by their names and numbers: `is_same`, `field_named`, `literal_named`, `literal_numbered`.
use Rattle.std.specs.Prelude.{ℕ, Bool, ◌==◌, List, Option, map, find, option_map, position}
use Rattle.std.specs.Char.{to_ascii_lowercase}
use Rattle.std.specs.Str.{bytes_eq}
use Rattle.rx_types.specs.declared.scalar.Literal.{Literal}
use Rattle.rx_graph.specs.declared.message.Field.{Field}

-- the same name, whatever the case of its letters
abbrev pub is_same : List ℕ → List ℕ → Bool
is_same a b = bytes_eq (map to_ascii_lowercase a) (map to_ascii_lowercase b)

-- the first field of this name
abbrev pub field_named : List Field → List ℕ → Option ℕ
field_named fields name = position (λ f. is_same f.name name) fields

-- the number of the first literal of this name
abbrev pub literal_named : List Literal → List ℕ → Option ℕ
literal_named literals name = option_map (λ l. l.number) (find (λ l. is_same l.name name) literals)

-- the first literal of this number
abbrev pub literal_numbered : List Literal → ℕ → Option Literal
literal_numbered literals n = find (λ l. l.number == n) literals
