-- The meaning of messages.
--   known_fields hs fs        the fields by their names, for the expressions of the message
--   message_made t h name m   message m of the package with header h, within the path limit or not
--   message_of t h name m     the same message, which is within the path limit
--   package_messages t gs p   the messages of a package, behind those before it
use Rattle.std.specs.Prelude.{ℕ, ◌+◌, Bool, true, false, List, [], ◌∷◌, ◌++◌, Option, Some, None, Ok, slice_get, map}
use Rattle.rx_syntax.specs.declared.tree.Named.{Named}
use Rattle.rx_syntax.specs.declared.tree.FieldTree.{FieldTree}
use Rattle.rx_syntax.specs.declared.tree.MessageTree.{MessageTree}
use Rattle.rx_syntax.specs.declared.tree.HeaderTree.{HeaderTree}
use Rattle.rx_syntax.specs.declared.tree.PackageTree.{PackageTree}
use Rattle.rx_syntax.specs.declared.tree.DeclTree.{DeclTree}
use Rattle.rx_syntax.specs.declared.tree.DeclKind.{DeclKind}
use Rattle.rx_syntax.specs.declared.tree.DeclKind.TheVariants as decl
use Rattle.rx_syntax.specs.declared.tree.DefTree.{DefTree}
use Rattle.rx_syntax.specs.declared.tree.DefTree.TheVariants as def
use Rattle.rx_types.specs.declared.scalar.FieldType.{FieldType}
use Rattle.rx_types.specs.declared.scalar.FieldType.TheVariants as field_type
use Rattle.rx_types.specs.Tree.{Truth}
use Rattle.rx_graph.specs.declared.message.Field.{Field}
use Rattle.rx_graph.specs.declared.message.Node.TheVariants as node
use Rattle.rx_graph.specs.Graph.{Arrow, Graph}
use Rattle.rx_judge.specs.Meaning.{Meaning, ◌>>=◌, each_from}
use Rattle.rx_judge.specs.Names.{Scope}
use Rattle.rx_judge.specs.Scalar.{spelled}
use Rattle.rx_judge.specs.Table.{Entry, added}
use Rattle.rx_judge.specs.declared.names.KnownField.{KnownField}
use Rattle.rx_judge.specs.declared.names.FieldKind.{FieldKind}
use Rattle.rx_judge.specs.declared.names.FieldKind.TheVariants as field_kind
use Rattle.rx_links.specs.declared.links.Way.{Way}
use Rattle.rx_elab.specs.Firsts.{layings_of, overlay_in}
use Rattle.rx_elab.specs.Parts.{message_parts}
use Rattle.rx_elab.specs.Through.{through}
use Rattle.rx_elab.specs.Types.{Types}
use Rattle.rx_elab.specs.declared.fields.Held.{Held}
use Rattle.rx_elab.specs.declared.fields.Held.TheVariants as holds
use Rattle.rx_elab.specs.declared.layings.Laying.{Laying}
use Rattle.rx_spec.specs.Arrows.{arrow_of_way}
use Rattle.rx_spec.specs.Limit.{within_limit}
use Rattle.rx_spec.specs.Shape.{Shape, shape_of}
use Rattle.rx_spec.specs.Sizes.{fields_sized}

-- ---- fields

abbrev pub kind_held : Held → FieldKind
kind_held (holds.Scalar s) = field_kind.Scalar s.kind s.greatest
kind_held holds.Opaque = field_kind.Bytes

-- each name with its field's place among all
abbrev pub known_from : ℕ → List (Entry KnownField) → List Held → List FieldTree → List (Entry KnownField)
known_from i table (h ∷ hs) (f ∷ fs) = known_from (i + 1) (added table [] f.name.word (record { id = i; kind = kind_held h })) hs fs
known_from i table hs fs = table

abbrev pub known_fields : List Held → List FieldTree → List (Entry KnownField)
known_fields hs fs = known_from 0 [] hs fs

abbrev pub type_held : Option Held → FieldType
type_held None = field_type.Opaque
type_held (Some (holds.Scalar s)) = field_type.Scalar s.id
type_held (Some holds.Opaque) = field_type.Opaque

-- a field, which lies over the field over which all links to it lay it
abbrev pub field_meant : List Held → List Laying → ℕ → FieldTree → Meaning Field
field_meant hs ls i f = spelled f.name >>= (λ w. Ok (record { name = w; kind = type_held (slice_get hs i); overlay = overlay_in ls i }))

-- ---- messages

-- the names that stand for something in the expressions of the message
abbrev pub scope_in : Types → HeaderTree → List Held → MessageTree → Scope
scope_in t h hs m = record { «package» = h.name.word; withs = h.withs.items; fields = known_fields hs m.fields.items; literals = t.literals }

abbrev pub links_meant : Scope → List Laying → Named → MessageTree → List Way → Meaning (List Arrow)
links_meant s ls name m ways = do
  ps ← message_parts s ls name.word m
  Ok (map (arrow_of_way name m ps) ways)

-- the links, with which the fields have their Sizes
abbrev pub sized_links : Scope → List Laying → Named → MessageTree → Shape → Meaning (List Arrow)
sized_links s ls name m shape = do
  links ← links_meant s ls name m shape.ways
  u ← fields_sized m.low_order shape.held links m.fields.items
  Ok links

-- fields and links
pub record Body : Type 0 where
  pub fields : List Field
  pub links : List Arrow

-- the body of a message whose links lay their targets so
abbrev pub body_laid : Scope → List Laying → Named → MessageTree → Shape → Meaning Body
body_laid s ls name m shape = do
  fields ← each_from (field_meant shape.held ls) 0 m.fields.items
  links ← sized_links s ls name m shape
  Ok (record { fields = fields; links = links })

abbrev pub body_shaped : Scope → Named → MessageTree → Shape → Meaning Body
body_shaped s name m shape = body_laid s (layings_of s m shape.ways) name m shape

abbrev pub body_of : Types → HeaderTree → Named → MessageTree → Meaning Body
body_of t h name m = do
  shape ← shape_of t.types h.name.word h.withs.items name m
  body_shaped (scope_in t h shape.held m) name m shape

abbrev pub graph_named : HeaderTree → Named → Body → Bool → Meaning Graph
graph_named h name b low = do
  p ← spelled h.name
  w ← spelled name
  Ok (record { «package» = p; name = w; fields = b.fields; links = b.links; low_order = low })

-- a message, be it within the path limit or not
abbrev pub message_made : Types → HeaderTree → Named → MessageTree → Meaning Graph
message_made t h name m = do
  b ← body_of t h name m
  graph_named h name b m.low_order

abbrev pub message_of : Types → HeaderTree → Named → MessageTree → Meaning Graph
message_of t h name m = message_made t h name m >>= within_limit t name

-- no fields, and one link from the start to null
abbrev pub null_body : Named → Body
null_body name = record { fields = []; links = record { source = node.Start; target = node.Null; condition = Truth true; first = None; size = None; place = name.place } ∷ [] }

abbrev pub null_made : HeaderTree → Named → Meaning Graph
null_made h name = graph_named h name (null_body name) false

abbrev pub null_message : Types → HeaderTree → Named → Meaning Graph
null_message t h name = null_made h name >>= within_limit t name

-- ---- packages

abbrev pub with_message : List Graph → Meaning Graph → Meaning (List Graph)
with_message gs m = m >>= (λ g. Ok (gs ++ g ∷ []))

abbrev pub definition_meant : Types → HeaderTree → List Graph → Named → DefTree → Meaning (List Graph)
definition_meant t h gs name (def.Message m) = with_message gs (message_of t h name m)
definition_meant t h gs name def.NullMessage = with_message gs (null_message t h name)
definition_meant t h gs name other = Ok gs

abbrev pub kind_meant : Types → HeaderTree → List Graph → DeclKind → Meaning (List Graph)
kind_meant t h gs (decl.Refine r) = Ok gs
kind_meant t h gs (decl.Defined name d) = definition_meant t h gs name d

abbrev pub declaration_meant : Types → HeaderTree → List Graph → DeclTree → Meaning (List Graph)
declaration_meant t h gs d = kind_meant t h gs d.kind

abbrev pub package_messages : Types → List Graph → PackageTree → Meaning (List Graph)
package_messages t gs p = through (declaration_meant t p.header) gs p.decls.items
