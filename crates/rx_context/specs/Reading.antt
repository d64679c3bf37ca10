-- The number of a field, as it stands in a buffer.
--   IsReadable t low size     the place has the size of the type, whose numbers stand there in the byte order
--   IsRead t bits n           n is the number of the field's bits, and one of its type
--   IsRefused t bits          the number of the field's bits is none of its type
--   AreReadBy p bytes fields  each scalar has the number of its bits in the buffer
use Rattle.std.specs.Prelude.{◌≡◌, ℕ, ◌<◌, Bool, List, Option, Some, None}
use Rattle.std.specs.List.{AllByRecursion}
use Rattle.rx_types.specs.Domain.{Domain, size_of, IsNumberOf}
use Rattle.rx_types.specs.Environment.{Placed}
use Rattle.rx_graph.specs.Elaborated.{FitsOrder}
use Rattle.rx_graph.specs.Fits.{by_buffer}
use Rattle.rx_graph.specs.Graph.{Graph}
use Rattle.rx_graph.specs.Paths.{IsReadBy}
use Rattle.rx_context.specs.Plan.{Planned, StandsFor}

abbrev pub IsReadable : Option Domain → Bool → ℕ → Type 0
IsReadable None low size = Unit {0}
IsReadable (Some t) low size = (size ≡ size_of t) × (0 < size) × (size < 64) × FitsOrder low size

-- A field that is no scalar has number 0.
abbrev pub IsRead : Option Domain → ℕ → ℕ → Type 0
IsRead None bits n = n ≡ 0
IsRead (Some t) bits n = (n ≡ bits) × IsNumberOf t n

abbrev pub IsRefused : Option Domain → ℕ → Type 0
IsRefused None bits = ⊥
IsRefused (Some t) bits = IsNumberOf t bits → ⊥

abbrev pub AreReadBy : Planned → List ℕ → List Placed → Type 0
AreReadBy p bytes fields =
    (domains : List Domain) (m : Graph) → StandsFor domains m p → AllByRecursion (IsReadBy domains m (by_buffer m.low_order bytes)) fields
