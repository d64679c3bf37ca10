-- What contracts see of drafts, and what a draft is.
--   Drafted                      a buffer, the plan and the length of its message, and the fields that were put
--   StandsForSound domains m p   the plan stands for the message, whose checks all hold
--   end_node fields              the node where the fields end
--   IsUnderway p e               the fields are those of a partial path
--   IsDraft d                    and the numbers of the scalars among them stand in their places
-- Each is said of every Sound message for which the plan stands.
use Rattle.std.specs.Prelude.{ℕ, ◌≤◌, List, [], ◌∷◌, length}
use Rattle.std.specs.List.{AllByRecursion}
use Rattle.rx_types.specs.Domain.{Domain}
use Rattle.rx_types.specs.Environment.{Placed, Environment, in_message}
use Rattle.rx_graph.specs.declared.message.Node.{Node}
use Rattle.rx_graph.specs.declared.message.Node.TheVariants.{Start, At}
use Rattle.rx_graph.specs.Checks.{AllHold}
use Rattle.rx_graph.specs.Fits.{by_buffer}
use Rattle.rx_graph.specs.Graph.{Graph}
use Rattle.rx_graph.specs.Paths.{IsPartial, IsReadBy}
use Rattle.rx_context.specs.Plan.{Planned, StandsFor}

-- the whole buffer, whose first `total` bytes are to be the message, and the fields that were put, in the order of the path
pub record Drafted : Type 0 where
  pub bytes : List ℕ
  pub plan : Planned
  pub total : ℕ
  pub fields : List Placed

abbrev pub environment_of : Drafted → Environment
environment_of d = in_message d.total d.fields

-- a buffer, and an environment of its message
abbrev pub drafted : List ℕ → Planned → Environment → Drafted
drafted bytes p e = record { bytes = bytes; plan = p; total = e.total; fields = e.fields }

pub record StandsForSound (domains : List Domain) (m : Graph) (p : Planned) : Type 0 where
  pub stands : StandsFor domains m p
  pub holds : AllHold domains m

-- there is a Sound message for which the plan stands
abbrev pub IsSoundPlan : Planned → Type 0
IsSoundPlan p = (domains : List Domain) × (m : Graph) × StandsForSound domains m p

abbrev pub end_node : List Placed → Node
end_node [] = Start
end_node (p ∷ []) = At p.field
end_node (p ∷ q ∷ ps) = end_node (q ∷ ps)

abbrev pub IsOnPath : List Domain → Graph → Environment → Type 0
IsOnPath domains m e = (path : List ℕ) × IsPartial domains m e.total path e.fields (end_node e.fields)

pub record IsUnderway (p : Planned) (e : Environment) : Type 0 where
  pub plan : IsSoundPlan p
  pub on : (domains : List Domain) (m : Graph) → StandsForSound domains m p → IsOnPath domains m e

pub record IsDraft (d : Drafted) : Type 0 where
  pub underway : IsUnderway d.plan (environment_of d)
  pub room : d.total ≤ length d.bytes
  pub reads : (domains : List Domain) (m : Graph) → StandsForSound domains m d.plan → AllByRecursion (IsReadBy domains m (by_buffer m.low_order d.bytes)) d.fields
