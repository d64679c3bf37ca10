-- What contracts see of contexts over a buffer, and what a plan reads in it.
--   Source                 a buffer, and the plan by which it is to be read
--   Reading                a buffer, its plan, and the fields of its path
--   ReadsBy p bytes fields          the fields are those of a whole path that fits the buffer
--   ReadsNothingBy p bytes          no whole path fits it
--   StopsBy p bytes stuck           where the reading stops, and why
-- Each is said of every message for which the plan stands.
use Rattle.std.specs.Prelude.{◌≡◌, ℕ, List}
use Rattle.rx_types.specs.declared.stuck.Stuck.{Stuck}
use Rattle.rx_types.specs.Domain.{Domain}
use Rattle.rx_types.specs.Environment.{Placed}
use Rattle.rx_graph.specs.Fits.{Reads, ReadsNothing, StopsAt}
use Rattle.rx_graph.specs.Graph.{Graph}
use Rattle.rx_context.specs.Plan.{Planned, StandsFor, IsPlan}

pub record Source : Type 0 where
  pub bytes : List ℕ
  pub plan : Planned

pub record Reading : Type 0 where
  pub bytes : List ℕ
  pub plan : Planned
  pub fields : List Placed

abbrev pub ReadsBy : Planned → List ℕ → List Placed → Type 0
ReadsBy p bytes fields = (domains : List Domain) (m : Graph) → StandsFor domains m p → Reads domains m bytes fields

abbrev pub ReadsNothingBy : Planned → List ℕ → Type 0
ReadsNothingBy p bytes = (domains : List Domain) (m : Graph) → StandsFor domains m p → ReadsNothing domains m bytes

abbrev pub StopsBy : Planned → List ℕ → Stuck → Type 0
StopsBy p bytes stuck = (domains : List Domain) (m : Graph) → StandsFor domains m p → StopsAt domains m bytes stuck.reason stuck.field

-- no other fields are those of a whole path that fits the buffer
abbrev pub IsOnlyReading : Planned → List ℕ → List Placed → Type 0
IsOnlyReading p bytes fields = (domains : List Domain) (m : Graph) (other : List Placed) → StandsFor domains m p → Reads domains m bytes other → other ≡ fields

-- the plan stands for some message, and the fields are those of the buffer's path
pub record IsReading (r : Reading) : Type 0 where
  pub plan : IsPlan r.plan
  pub reads : ReadsBy r.plan r.bytes r.fields
