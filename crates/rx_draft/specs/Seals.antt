-- Sealed buffers, and the bits that a draft keeps.
--   KeepsRest start d    the buffer is as long as `start`, and has its bits outside the places of the fields that were put
--   IsSealed d           the buffer begins with a whole message, whose fields these are
use Rattle.std.specs.Prelude.{◌≡◌, ℕ, ◌+◌, ◌<◌, ◌≤◌, ◌^◌, ◌⊎◌, nat_abs, List, length, take}
use Rattle.std.specs.List.{AllByRecursion}
use Rattle.rx_model.specs.Bits.{bit_at}
use Rattle.rx_types.specs.Domain.{Domain}
use Rattle.rx_types.specs.Environment.{Placed}
use Rattle.rx_graph.specs.Fits.{Reads}
use Rattle.rx_graph.specs.Graph.{Graph}
use Rattle.rx_draft.specs.Drafts.{Drafted, StandsForSound, IsSoundPlan}

abbrev pub IsOutside : ℕ → Placed → Type 0
IsOutside i p = (i < nat_abs p.first) ⊎ (nat_abs p.first + nat_abs p.size ≤ i)

pub record KeepsRest (start : List ℕ) (d : Drafted) : Type 0 where
  pub long : length d.bytes ≡ length start
  pub bits : (i : ℕ) → AllByRecursion (IsOutside i) d.fields → bit_at d.bytes i ≡ bit_at start i

pub record IsSealed (d : Drafted) : Type 0 where
  pub plan : IsSoundPlan d.plan
  pub room : d.total ≤ length d.bytes
  pub short : d.total < 2 ^ 24
  pub reads : (domains : List Domain) (m : Graph) → StandsForSound domains m d.plan → Reads domains m (take d.total d.bytes) d.fields
