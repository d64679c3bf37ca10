-- The shape of a message: what its fields hold, and which links it has.
--   paths_stand name ways      at most 4,096 whole paths, or GraphLimit at the message's name
--   few_stand name m           no expression has more than 256 operators, or TooDeep at the message's name
--   ways_of name m             the links of a message, which lead to its fields, do not lead back, and are few
--   shape_of ts p withs name m    the shape of message m of package p
use Rattle.std.specs.Prelude.{ℕ, Bool, true, ◌&&◌, nat_le, List, length, map, Option, Some, None, Ok, if◌then◌else◌}
use Rattle.std.specs.List.{list_all}
use Rattle.rx_syntax.specs.declared.token.Place.{Place}
use Rattle.rx_syntax.specs.declared.tree.Named.{Named}
use Rattle.rx_syntax.specs.declared.tree.ExprTree.{ExprTree}
use Rattle.rx_syntax.specs.declared.tree.AspectTree.{AspectTree}
use Rattle.rx_syntax.specs.declared.tree.AspectTree.TheVariants as aspect
use Rattle.rx_syntax.specs.declared.tree.ThenTree.{ThenTree}
use Rattle.rx_syntax.specs.declared.tree.FieldTree.{FieldTree}
use Rattle.rx_syntax.specs.declared.tree.MessageTree.{MessageTree}
use Rattle.rx_syntax.specs.declared.rule.Rule.TheVariants as rule
use Rattle.rx_types.specs.Tree.{Truth}
use Rattle.rx_graph.specs.declared.message.Node.TheVariants as node
use Rattle.rx_graph.specs.Graph.{Arrow}
use Rattle.rx_graph.specs.Onward.{onward}
use Rattle.rx_judge.specs.Meaning.{Meaning, ◌>>=◌, refused_at, each_from}
use Rattle.rx_judge.specs.Sound.{operators_of}
use Rattle.rx_judge.specs.Table.{Entry}
use Rattle.rx_links.specs.Counts.{counts_stand}
use Rattle.rx_links.specs.Cycle.{node_of, no_cycle}
use Rattle.rx_links.specs.Links.{links_of}
use Rattle.rx_links.specs.declared.links.Way.{Way}
use Rattle.rx_elab.specs.Fields.{field_held}
use Rattle.rx_elab.specs.declared.fields.Held.{Held}
use Rattle.rx_elab.specs.declared.types.KnownType.{KnownType}
use Rattle.rx_spec.specs.declared.shape.Shape as code

-- what each field holds, and the links in order of text
pub record Shape : Type 0 where
  pub held : List Held
  pub ways : List Way

abbrev pub shape_of_code : code.Shape → Shape
shape_of_code s = record { held = s.held.items; ways = s.ways.items }

-- ---- counts

-- a link that is always taken, and says nothing of its target
abbrev pub bare_arrow : Place → Way → Arrow
bare_arrow p w = record { source = node_of w.source; target = node_of w.target; condition = Truth true; first = None; size = None; place = p }

-- the links of the paths from the start to null
abbrev pub whole_paths : Place → List Way → List (List ℕ)
whole_paths p ways = onward (map (bare_arrow p) ways) (length ways) node.Null node.Start

abbrev pub paths_stand : Named → List Way → Meaning (Unit {0})
paths_stand name ways = if nat_le (length (whole_paths name.place ways)) 4096 then Ok tt else refused_at rule.GraphLimit name

-- ---- operators; no text has an expression with more of them

abbrev pub has_few : ExprTree → Bool
has_few e = nat_le (operators_of e) 256

abbrev pub has_few_if_any : Option ExprTree → Bool
has_few_if_any None = true
has_few_if_any (Some e) = has_few e

abbrev pub aspect_has_few : AspectTree → Bool
aspect_has_few (aspect.First p e) = has_few e
aspect_has_few (aspect.Size p e) = has_few e

abbrev pub then_has_few : ThenTree → Bool
then_has_few t = list_all aspect_has_few t.aspects.items && has_few_if_any t.condition

abbrev pub field_has_few : FieldTree → Bool
field_has_few f = list_all aspect_has_few f.aspects.items && has_few_if_any f.condition && list_all then_has_few f.thens.items

abbrev pub message_has_few : MessageTree → Bool
message_has_few m = list_all then_has_few m.start.items && list_all field_has_few m.fields.items

abbrev pub few_stand : Named → MessageTree → Meaning (Unit {0})
few_stand name m = if message_has_few m then Ok tt else refused_at rule.TooDeep name

-- ---- the shape

abbrev pub ways_stand : Named → MessageTree → List Way → Meaning (Unit {0})
ways_stand name m ways = do
  u ← no_cycle name m.start.items m.fields.items ways
  v ← counts_stand name (length m.fields.items) (length ways)
  w ← paths_stand name ways
  few_stand name m

abbrev pub ways_of : Named → MessageTree → Meaning (List Way)
ways_of name m = do
  ways ← links_of m.start.items m.fields.items
  u ← ways_stand name m ways
  Ok ways

abbrev pub shape_of : List (Entry KnownType) → List ℕ → List Named → Named → MessageTree → Meaning Shape
shape_of types p withs name m = do
  held ← each_from (field_held types p withs) 0 m.fields.items
  ways ← ways_of name m
  Ok (record { held = held; ways = ways })
