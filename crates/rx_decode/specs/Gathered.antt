-- The valuation of those fields of a path whose ids are below n.
--   there_at f                 what stands at the place of field f in the buffer
--   IsGathered .. n values     the valuation names exactly these fields, each with what stands at its place
use Rattle.std.specs.Prelude.{◌≡◌, ℕ, ◌<◌, List, Some}
use Rattle.rx_types.specs.Domain.{Domain}
use Rattle.rx_types.specs.Environment.{Placed, place_of, IsAmong}
use Rattle.rx_graph.specs.Graph.{Graph, type_of}
use Rattle.rx_graph.specs.Fits.{Content, Assigned, IsAscending, content_at, content_of}

module _ (domains : List Domain) (m : Graph) (bytes : List ℕ) (fields : List Placed) where
  abbrev pub there_at : ℕ → Content
  there_at f = content_at m.low_order (type_of domains m f) bytes (place_of f fields)

  pub record IsGathered (n : ℕ) (values : List Assigned) : Type 0 where
    pub ascending : IsAscending values
    pub there : (f : ℕ) → f < n → IsAmong f fields → content_of f values ≡ Some (there_at f)
    pub only : (f : ℕ) (c : Content) → content_of f values ≡ Some c → (f < n) × IsAmong f fields
