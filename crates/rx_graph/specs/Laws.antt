-- What holds of every message.
use Rattle.std.specs.Prelude.{◌≡◌, ℕ, ◌*◌, ◌≤◌, ℤ, pos, ◌+ℤ◌, List, [], ◌∷◌, length, Option, Some, None, slice_get}
use Rattle.std.specs.List.{AllByRecursion}
use Rattle.rx_types.specs.declared.stuck.Reason.{Reason}
use Rattle.rx_types.specs.Domain.{Domain}
use Rattle.rx_types.specs.Environment.{Placed, in_message, AreDistinct}
use Rattle.rx_types.specs.Narrow.{StaysWithin}
use Rattle.rx_graph.specs.declared.message.Node.{Node}
use Rattle.rx_graph.specs.Graph.{Graph, overlay_of, limit_of}
use Rattle.rx_graph.specs.Cycles.{ArePathsTo}
use Rattle.rx_graph.specs.Paths.{Reader, IsPartial, IsWhole, IsReadBy}
use Rattle.rx_graph.specs.Fits.{Assigned, IsAscending, Fits, length_of}
use Rattle.rx_graph.specs.Stuck.{IsReason, IsStuck}

-- the size of a field, or 0 where it is an overlay
abbrev pub size_if : Option ℕ → ℤ → ℤ
size_if None z = z
size_if (Some x) z = pos 0

-- the sizes of the fields that are no overlays
abbrev pub own_sizes : Graph → List Placed → ℤ
own_sizes m [] = pos 0
own_sizes m (p ∷ ps) = size_if (overlay_of (slice_get m.fields p.field)) p.size +ℤ own_sizes m ps

-- the paths to a node stand in one list
abbrev pub HasOneList : Graph → Type 0
HasOneList m = (end : Node) (paths others : List (List ℕ)) → ArePathsTo m end paths → ArePathsTo m end others → paths ≡ others

module _ (domains : List Domain) (m : Graph) where
  -- a partial path that is read, and that has a reason to go no further, is the longest
  abbrev pub ReasonMakesLongest : Type 0
  ReasonMakesLongest =
      (read : Reader) (total : ℕ) (path : List ℕ) (fields : List Placed) (end : Node) (reason : Reason) (field : Option ℕ) → IsPartial domains m total path fields end
      → AllByRecursion (IsReadBy domains m read) fields → IsReason domains m read (in_message total fields) end reason field → IsStuck domains m read total reason field

  -- where a reading is stuck, no whole path fits
  abbrev pub NoneWhereStuck : Type 0
  NoneWhereStuck =
      (read : Reader) (total : ℕ) (reason : Reason) (field : Option ℕ) (path : List ℕ) (fields : List Placed) → IsStuck domains m read total reason field → IsWhole domains m total path fields
      → AllByRecursion (IsReadBy domains m read) fields → ⊥

  -- a reading is stuck for one reason
  abbrev pub HasOneReason : Type 0
  HasOneReason =
      (read : Reader) (total : ℕ) (reason other : Reason) (field more : Option ℕ) → IsStuck domains m read total reason field → IsStuck domains m read total other more → (reason ≡ other) × (field ≡ more)

  -- the sizes of the fields of a whole path that are no overlays add up to the length of the message
  abbrev pub SizesMakeLength : Type 0
  SizesMakeLength = (total : ℕ) (path : List ℕ) (fields : List Placed) → IsWhole domains m total path fields → own_sizes m fields ≡ pos (total * 8)

  -- a valuation that fits a path has the length of the message
  abbrev pub FitsHaveLength : Type 0
  FitsHaveLength = (values : List Assigned) (total : ℕ) (path : List ℕ) (fields : List Placed) → IsAscending values → Fits domains m values total path fields → length_of domains m values ≡ total

  -- no field stands twice on a partial path, so there are at most 128
  abbrev pub FieldsAreDistinct : Type 0
  FieldsAreDistinct = (total : ℕ) (path : List ℕ) (fields : List Placed) (end : Node) → IsPartial domains m total path fields end → AreDistinct fields × (length fields ≤ 128)

  -- expressions of an elaborated message have values at the end of a partial path
  abbrev pub FieldsAreBounded : Type 0
  FieldsAreBounded = (total : ℕ) (path : List ℕ) (fields : List Placed) (end : Node) → IsPartial domains m total path fields end → StaysWithin (limit_of domains m) (in_message total fields)
