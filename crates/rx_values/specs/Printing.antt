-- The JSON text of a valuation.
--   data_of t c           what a field of this type holds, as JSON
--   name_of m f           the name of a field, as it is declared
--   members_of values     the members, in the byte order of their keys
--   json_text values      the object as text, without spaces
use Rattle.std.specs.Prelude.{ℕ, List, [], ◌∷◌, Option, Some, None, slice_get}
use Rattle.serde_json.specs.Data.{Data, number, unsigned, string, object, Members, no_members, put}
use Rattle.serde_json.specs.Written.{compact_text}
use Rattle.hex.specs.Hex.{encode_lower}
use Rattle.rx_types.specs.declared.scalar.Literal.{Literal}
use Rattle.rx_types.specs.Domain.{Domain, Integer, Enumeration}
use Rattle.rx_graph.specs.declared.message.Field.{Field}
use Rattle.rx_graph.specs.Graph.{Graph, type_of}
use Rattle.rx_graph.specs.Fits.{Content, Number, Bytes, Assigned}
use Rattle.rx_values.specs.Names.{literal_numbered}

-- the literal's name, or the number where no literal has it
abbrev pub literal_data : ℕ → Option Literal → Data
literal_data n None = number (unsigned n)
literal_data n (Some l) = string l.name

abbrev pub scalar_data : Domain → ℕ → Data
scalar_data (Integer first last size) n = number (unsigned n)
scalar_data (Enumeration literals size always_valid) n = literal_data n (literal_numbered literals n)

-- bytes are lower-case hexadecimal digits
abbrev pub data_of : Option Domain → Content → Data
data_of (Some t) (Number n) = scalar_data t n
data_of None (Number n) = number (unsigned n)
data_of t (Bytes bytes) = string (encode_lower bytes)

abbrev pub name_if_any : Option Field → List ℕ
name_if_any None = []
name_if_any (Some f) = f.name

abbrev pub name_of : Graph → ℕ → List ℕ
name_of m f = name_if_any (slice_get m.fields f)

module _ (domains : List Domain) (m : Graph) where
  -- the members that there are with those of these fields
  abbrev pub with_members : List Assigned → Members → Members
  with_members [] ms = ms
  with_members (a ∷ rest) ms = with_members rest (put (name_of m a.field) (data_of (type_of domains m a.field) a.content) ms)

  abbrev pub members_of : List Assigned → Members
  members_of values = with_members values no_members

  abbrev pub json_text : List Assigned → List ℕ
  json_text values = compact_text (object (members_of values))
