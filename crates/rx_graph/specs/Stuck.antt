-- Where a reading stops, and why.
--   IsReason     why a path goes no further
--   IsStuck      the longest path that is read, and its reason
use Rattle.std.specs.Prelude.{◌≡◌, ◌≢◌, ℕ, ◌*◌, ◌≤◌, ℤ, pos, List, length, Option, Some, None}
use Rattle.std.specs.List.{AllByRecursion}
use Rattle.rx_types.specs.Domain.{Domain}
use Rattle.rx_types.specs.declared.stuck.Reason.{Reason}
use Rattle.rx_types.specs.declared.stuck.Reason.TheVariants.{Condition, Trailing, Short, Value}
use Rattle.rx_types.specs.Environment.{Placed, Environment, in_message, end_of}
use Rattle.rx_graph.specs.declared.message.Node.{Node}
use Rattle.rx_graph.specs.declared.message.Node.TheVariants.{Start, At, Null}
use Rattle.rx_graph.specs.Graph.{Arrow, Graph, type_of}
use Rattle.rx_graph.specs.Cycles.{IsLink}
use Rattle.rx_graph.specs.Paths.{first_of, size_of_target, HasNumber, IsTrue, LiesWithin, Reader, IsPartial, Ends, IsReadBy}

-- the field of a node, if it is one
abbrev pub field_of : Node → Option ℕ
field_of Start = None
field_of (At f) = Some f
field_of Null = None

module _ (domains : List Domain) (m : Graph) (read : Reader) where
  -- a link that is taken leads to the field
  pub record Tries (e : Environment) (at : Node) (f : ℕ) (link : Arrow) : Type 0 where
    pub index : ℕ
    pub is : IsLink m index link
    pub source : link.source ≡ at
    pub target : link.target ≡ At f
    pub taken : IsTrue link e

  abbrev pub size_by : Arrow → Environment → ℕ → ℤ
  size_by link e f = size_of_target (type_of domains m f) link e

  -- Condition: no link is taken. Trailing: the one that is taken leads to null, and the message doesn't end here. Short:
  -- its target does not lie in the message. Value: it does, and its number is not in its type.
  abbrev pub IsReason : Environment → Node → Reason → Option ℕ → Type 0
  IsReason e at Condition field = (field ≡ field_of at) × ((i : ℕ) (link : Arrow) → IsLink m i link → link.source ≡ at → IsTrue link e → ⊥)
  IsReason e at Trailing field = (field ≡ field_of at) × ((i : ℕ) × Ends domains m e.total e.fields at i) × (end_of e.fields ≢ pos (e.total * 8))
  IsReason e at Short field = (f : ℕ) × (link : Arrow) × (field ≡ Some f) × Tries e at f link × (LiesWithin e (first_of link e) (size_by link e f) → ⊥)
  IsReason e at Value field = (f : ℕ) × (link : Arrow) × (field ≡ Some f) × Tries e at f link × LiesWithin e (first_of link e) (size_by link e f) × (t : Domain) × (type_of domains m f ≡ Some t) × (HasNumber (Some t) (read f (first_of link e) (size_by link e f)) → ⊥)

  -- the longest path that is read, and why it goes no further
  pub record IsStuck (total : ℕ) (reason : Reason) (field : Option ℕ) : Type 0 where
    pub path : List ℕ
    pub fields : List Placed
    pub end : Node
    pub partial : IsPartial domains m total path fields end
    pub reads : AllByRecursion (IsReadBy domains m read) fields
    pub longest : (other : List ℕ) (more : List Placed) (at : Node) → IsPartial domains m total other more at → AllByRecursion (IsReadBy domains m read) more → length other ≤ length path
    pub why : IsReason (in_message total fields) end reason field
