-- What the conditions of links at the end of a path add to it.
--   conditions_within           whether they stay within the path limit, each with the variables behind those of the one before
--   asked                       the number of the next variable behind them, if they do
--   front_along, front_within   what stands behind a path, and whether the path alone stays within the limit
use Rattle.std.specs.Prelude.{List, [], ◌∷◌, ℕ, ◌+◌, Bool, true, ◌&&◌, if◌then◌else◌, Option, Some, None}
use Rattle.rx_types.specs.Domain.{Domain}
use Rattle.rx_graph.specs.Graph.{Arrow, Graph}
use Rattle.rx_forms.specs.Normal.{Formed, divisions_in}
use Rattle.rx_forms.specs.Limits.{is_within}
use Rattle.rx_forms.specs.Steps.{links_on, scalars_on, past, into_fields}
use Rattle.rx_forms.specs.Fronts.{Front, first_front, after_route, route_within}

abbrev pub conditions_within : List Formed → ℕ → List Arrow → Bool
conditions_within fields n [] = true
conditions_within fields n (link ∷ links) = is_within fields n link.condition && conditions_within fields (n + divisions_in link.condition) links

abbrev pub asked : List Formed → ℕ → List Arrow → Option ℕ
asked fields n links = if conditions_within fields n links then Some (past n links) else None

module _ (domains : List Domain) (m : Graph) where
  abbrev pub begin_along : List ℕ → Front
  begin_along path = first_front (scalars_on domains m (into_fields (links_on domains m path)))

  abbrev pub front_along : List ℕ → Front
  front_along path = after_route domains m (begin_along path) path

  abbrev pub front_within : List ℕ → Bool
  front_within path = route_within domains m (begin_along path) path
