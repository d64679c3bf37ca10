-- Where a field lies that is to be put.
--   IsPlaced e f place    Within: it is the next, and lies there. Beyond: it is the next, and does not lie within the
--                         message. Elsewhere: it is not the next.
use Rattle.std.specs.Prelude.{◌≡◌, ℕ, ◌+◌, ◌*◌, ◌≤◌, pos, List}
use Rattle.rx_types.specs.Domain.{Domain}
use Rattle.rx_types.specs.Environment.{Environment}
use Rattle.rx_graph.specs.Checks.{size_to}
use Rattle.rx_graph.specs.Graph.{Arrow, Graph}
use Rattle.rx_graph.specs.Paths.{first_of, LiesWithin}
use Rattle.rx_draft.specs.Puts.{TakesTo, IsNext}
use Rattle.rx_draft.specs.declared.stepping.Place.{Place}
use Rattle.rx_draft.specs.declared.stepping.Place.TheVariants.{Within, Beyond, Elsewhere}

module _ (domains : List Domain) (m : Graph) (e : Environment) where
  -- it lies within the message, at this place
  abbrev pub LiesAt : ℕ → ℕ → ℕ → Type 0
  LiesAt f first size = (link : Arrow) × TakesTo m e f link × (first_of link e ≡ pos first) × (size_to domains m link e f ≡ pos size) × (first + size ≤ e.total * 8)

  abbrev pub IsPlaced : ℕ → Place → Type 0
  IsPlaced f (Within first size) = LiesAt f first size
  IsPlaced f (Beyond size) = (link : Arrow) × TakesTo m e f link × (size_to domains m link e f ≡ size) × (LiesWithin e (first_of link e) (size_to domains m link e f) → ⊥)
  IsPlaced f Elsewhere = IsNext m e f → ⊥
