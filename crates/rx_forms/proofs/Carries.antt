-- Points that carry the numbers and quotients of a path.
--   CarriesLink    the point has the number of a link's target and the quotients of the link
--   Carries        and so for the links of a path, one after the other
use Rattle.std.specs.Prelude.{◌≡◌, List, [], ◌∷◌, ◌++◌, ℕ, ◌+◌, get_or, ℤ, pos, Some}
use Rattle.rx_types.specs.Domain.{Domain}
use Rattle.rx_types.specs.Environment.{Environment, Placed, in_message}
use Rattle.rx_graph.specs.Graph.{Arrow, Graph, type_of}
use Rattle.rx_forms.specs.Points.{Solves, SolvesAny}
use Rattle.rx_forms.specs.Steps.{Step, size_aspect, first_division, size_division, scalars_in, next_division}

module _ (domains : List Domain) (m : Graph) where
  -- the point has the link's number and quotients
  pub record CarriesLink (point : List ℤ) (e : Environment) (step : Step) (p : Placed) : Type 0 where
    pub number : (t : Domain) → type_of domains m step.field ≡ Some t → get_or point step.scalar (pos 0) ≡ pos p.number
    pub condition : Solves point step.division step.link.condition e
    pub first : SolvesAny point (first_division step) step.link.first e
    pub size : SolvesAny point (size_division step) (size_aspect (type_of domains m step.field) step.link.size) e

  abbrev pub Carries : List ℤ → ℕ → List Placed → ℕ → ℕ → List Arrow → List Placed → Type 0
  Carries point total before scalar division [] [] = Unit {0}
  Carries point total before scalar division [] (p ∷ fields) = ⊥
  Carries point total before scalar division (link ∷ links) [] = ⊥
  Carries point total before scalar division (link ∷ links) (p ∷ fields) =
      CarriesLink point (in_message total before) (record { before = []; scalar = scalar; division = division; link = link; field = p.field }) p
      × Carries point total (before ++ p ∷ []) (scalar + scalars_in (type_of domains m p.field)) (next_division domains m (record { before = []; scalar = scalar; division = division; link = link; field = p.field })) links fields
