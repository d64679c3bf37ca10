-- How goals, paths and the scalars of a path are told.
--   node_text, check_name, subject_text    a node, a check, and its subject
--   link_number m i                        the number of link i among those of its node, from 1
--   path_text m path                       a path, by the numbers of its links
--   scalars_of, values_along               the scalars of a path, and the numbers that they have
use Rattle.std.specs.Prelude.{ℕ, ◌+◌, ◌==◌, List, [], ◌∷◌, ◌++◌, Option, Some, None, is_some, slice_get, position, filter_map, codes, decimal, if◌then◌else◌}
use Rattle.std.specs.List.{flat_map}
use Rattle.rx_types.specs.Domain.{Domain}
use Rattle.rx_graph.specs.declared.message.Node.{Node}
use Rattle.rx_graph.specs.declared.message.Node.TheVariants.{Start, At, Null}
use Rattle.rx_graph.specs.declared.message.Field.{Field}
use Rattle.rx_graph.specs.Graph.{Arrow, Graph, type_of}
use Rattle.rx_graph.specs.Checks.{number_of}
use Rattle.rx_graph.specs.Fits.{Number, Assigned}
use Rattle.rx_layout.specs.declared.goal.Goal.{Goal}
use Rattle.rx_layout.specs.declared.goal.Goal.TheVariants.{Exclusive, Taken, Reached, Position, Grid, Overlay, Cover, Whole}
use Rattle.rx_values.specs.Printing.{name_of}

-- ---- goals

abbrev pub check_name : Goal → List ℕ
check_name (Exclusive node a b) = codes "Exclusive"
check_name (Taken node n) = codes "Taken"
check_name (Reached f) = codes "Reached"
check_name (Position node n) = codes "Position"
check_name (Grid node n) = codes "Grid"
check_name (Overlay node n) = codes "Overlay"
check_name (Cover node n) = codes "Cover"
check_name (Whole node n) = codes "Whole"

-- a field by its name, the start by `-`; no goal is about null
abbrev pub node_text : Graph → Node → List ℕ
node_text m Start = codes "-"
node_text m (At f) = name_of m f
node_text m Null = codes "null"

-- `NODE I`
abbrev pub link_text : Graph → Node → ℕ → List ℕ
link_text m node n = node_text m node ++ codes " " ++ decimal n

-- `NODE I J`, a field, or `NODE I`
abbrev pub subject_text : Graph → Goal → List ℕ
subject_text m (Exclusive node a b) = link_text m node a ++ codes " " ++ decimal b
subject_text m (Reached f) = node_text m (At f)
subject_text m (Taken node n) = link_text m node n
subject_text m (Position node n) = link_text m node n
subject_text m (Grid node n) = link_text m node n
subject_text m (Overlay node n) = link_text m node n
subject_text m (Cover node n) = link_text m node n
subject_text m (Whole node n) = link_text m node n

-- ---- paths

-- links of a node are numbered from 1 in their order
abbrev pub number_if_any : Graph → ℕ → Option Arrow → ℕ
number_if_any m i None = 0
number_if_any m i (Some link) = number_of m.links link.source i

abbrev pub link_number : Graph → ℕ → ℕ
link_number m i = number_if_any m i (slice_get m.links i)

-- a link behind others: a point and its number
abbrev pub step_text : Graph → ℕ → List ℕ
step_text m i = codes "." ++ decimal (link_number m i)

-- the numbers of its links with points between them, or `-`
abbrev pub path_text : Graph → List ℕ → List ℕ
path_text m [] = codes "-"
path_text m (i ∷ path) = decimal (link_number m i) ++ flat_map (step_text m) path

-- ---- the scalars of a path

module _ (domains : List Domain) (m : Graph) where
  -- the node's field, if it is a scalar
  abbrev pub scalar_at : Node → Option ℕ
  scalar_at Start = None
  scalar_at (At f) = if is_some (type_of domains m f) then Some f else None
  scalar_at Null = None

  abbrev pub scalar_behind : Option Arrow → Option ℕ
  scalar_behind None = None
  scalar_behind (Some link) = scalar_at link.target

  -- in the order of the path
  abbrev pub scalars_of : List ℕ → List ℕ
  scalars_of path = filter_map (λ i. scalar_behind (slice_get m.links i)) path

abbrev pub number_at : List ℕ → Option ℕ → Option ℕ
number_at numbers None = None
number_at numbers (Some i) = slice_get numbers i

-- the number that stands where the field stands
abbrev pub number_among : ℕ → List ℕ → List ℕ → Option ℕ
number_among f fields numbers = number_at numbers (position (λ g. g == f) fields)

abbrev pub assigned_if : ℕ → Option ℕ → List Assigned
assigned_if f None = []
assigned_if f (Some n) = record { field = f; content = Number n } ∷ []

-- field f and those behind it, as far as they have numbers
abbrev pub values_from : (ℕ → Option ℕ) → ℕ → List Field → List Assigned
values_from number f [] = []
values_from number f (field ∷ fields) = assigned_if f (number f) ++ values_from number (f + 1) fields

-- the scalars of the path with these numbers, ids ascending
abbrev pub values_along : List Domain → Graph → List ℕ → List ℕ → List Assigned
values_along domains m path numbers = values_from (λ f. number_among f (scalars_of domains m path) numbers) 0 m.fields
