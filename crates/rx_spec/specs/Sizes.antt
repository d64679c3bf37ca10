-- Sizes of fields, and the sizes of scalars in low order.
--   is_sized links i            field i has a Size at each link to it, or ends the message
--   is_in_order low size        in low order a scalar has fewer than eight bits, or whole bytes
--   fields_sized low hs links fs    MissingSize and OrderSize at the names of the fields
use Rattle.std.specs.Prelude.{ℕ, ◌%◌, ◌==◌, Bool, true, false, not, ◌&&◌, ◌||◌, nat_lt, List, [], ◌∷◌, Option, Some, None, Ok, slice_get, filter, if◌then◌else◌}
use Rattle.std.specs.List.{list_any}
use Rattle.rx_syntax.specs.declared.tree.Named.{Named}
use Rattle.rx_syntax.specs.declared.tree.FieldTree.{FieldTree}
use Rattle.rx_syntax.specs.declared.rule.Rule.TheVariants as rule
use Rattle.rx_types.specs.Tree.{Tree}
use Rattle.rx_graph.specs.declared.message.Node.TheVariants.{At, Null}
use Rattle.rx_graph.specs.Graph.{Arrow}
use Rattle.rx_graph.specs.Checks.{is_node}
use Rattle.rx_judge.specs.Meaning.{Meaning, refused_at, all_stand_from}
use Rattle.rx_elab.specs.declared.fields.Held.{Held}
use Rattle.rx_elab.specs.declared.fields.Held.TheVariants as holds

abbrev pub is_said : Option Tree → Bool
is_said None = false
is_said (Some x) = true

-- the link leads to field i, and gives it no Size
abbrev pub lacks_size : ℕ → Arrow → Bool
lacks_size i l = is_node (At i) l.target && not (is_said l.size)

-- there is one link, and it goes to null
abbrev pub is_one_end : List Arrow → Bool
is_one_end (l ∷ []) = is_node Null l.target
is_one_end ls = false

-- the only link of field i goes to null
abbrev pub only_ends : List Arrow → ℕ → Bool
only_ends links i = is_one_end (filter (λ l. is_node (At i) l.source) links)

abbrev pub is_sized : List Arrow → ℕ → Bool
is_sized links i = not (list_any (lacks_size i) links) || only_ends links i

abbrev pub is_in_order : Bool → ℕ → Bool
is_in_order low size = not low || (nat_lt size 8 || size % 8 == 0)

abbrev pub held_sized : Bool → List Arrow → Named → ℕ → Option Held → Meaning (Unit {0})
held_sized low links name i None = Ok tt
held_sized low links name i (Some (holds.Scalar s)) = if is_in_order low s.size then Ok tt else refused_at rule.OrderSize name
held_sized low links name i (Some holds.Opaque) = if is_sized links i then Ok tt else refused_at rule.MissingSize name

abbrev pub field_sized : Bool → List Held → List Arrow → ℕ → FieldTree → Meaning (Unit {0})
field_sized low hs links i f = held_sized low links f.name i (slice_get hs i)

abbrev pub fields_sized : Bool → List Held → List Arrow → List FieldTree → Meaning (Unit {0})
fields_sized low hs links fs = all_stand_from (field_sized low hs links) 0 fs
