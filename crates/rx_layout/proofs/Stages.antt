-- What stands behind a path when a formula or quotients by 8 are asked there, and what was gathered in all.
--   formula_behind, units_behind    a formula, or the rows of quotients, besides
--   size_behind, grid_units         the Size of a target behind its First, and the rows of the quotients of a field of bytes
--   behind_path, behind_end         what was gathered along the path and is asked at its end, and what is asked alone
--   gathered_form                   all that was gathered, as one fact
use Rattle.std.specs.Prelude.{List, [], ◌∷◌, ◌++◌, map, ℕ, ◌+◌, Option}
use Rattle.rx_types.specs.Domain.{Domain}
use Rattle.rx_types.specs.Narrow.{places_in_bits}
use Rattle.rx_types.specs.Tree.{Tree}
use Rattle.rx_graph.specs.Graph.{Arrow, Graph, limit_of}
use Rattle.rx_forms.specs.declared.linear.Linear.{Linear}
use Rattle.rx_forms.specs.declared.linear.Form.{Form, All}
use Rattle.rx_forms.specs.declared.builder.Builder.{Builder}
use Rattle.rx_forms.specs.Steps.{form_or, size_aspect}
use Rattle.rx_forms.specs.Expressions.{size_otherwise}
use Rattle.rx_forms.specs.Fronts.{Front}
use Rattle.rx_layout.specs.declared.goal.Goal.{Goal}
use Rattle.rx_layout.specs.Laid.{placed, typed_field, laid_from, behind, path_front}
use Rattle.rx_layout.specs.QueryOf.{rows, length_form, asked_by, unit_rows, interval_or, rest_interval}

abbrev pub formula_behind : List Form → Front → Front
formula_behind formula front = record front { conditions = front.conditions ++ formula }

abbrev pub units_behind : List Linear → ℕ → Front → Front
units_behind units quotients front = record front { division = front.division + quotients; rows = front.rows ++ units }

-- the Size of a target with that First, where the front is behind the First
abbrev pub size_behind : Option Domain → Linear → Option Tree → Front → Linear
size_behind type first size front = form_or (size_aspect type size) front.fields front.division (size_otherwise type first)

module _ (domains : List Domain) (m : Graph) where
  -- the rows of the quotients by 8 of First and Size
  abbrev pub grid_units : ℕ → Arrow → List Linear
  grid_units q link = unit_rows q (interval_or (limit_of domains m) link.first places_in_bits) ++ unit_rows (q + 1) (interval_or (limit_of domains m) link.size rest_interval)

  -- behind the path, with what the goal asks
  abbrev pub behind_path : List ℕ → Goal → Front
  behind_path path goal =
      let front = path_front domains m path in
      behind (asked_by domains m goal front.fields front.division) front

  -- what the goal asks alone
  abbrev pub behind_end : List ℕ → Goal → Front
  behind_end path goal =
      let front = record (path_front domains m path) { rows = []; conditions = [] } in
      behind (asked_by domains m goal front.fields front.division) front

  -- all that was gathered, as one fact
  abbrev pub gathered_form : Builder → Form
  gathered_form b =
      All (map (typed_field domains m) b.fields.items
      ++ (length_form ∷ (map placed b.fields.items
      ++ (laid_from domains m [] b.fields.items
      ++ (b.conditions
      ++ rows b.work.rows ∷ [])))))
