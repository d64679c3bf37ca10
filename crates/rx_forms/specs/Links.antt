-- Links whose expressions have sums and facts, and are narrow.
--   IsNumericIfAny, IsFormable, AreFormable    an aspect has a sum; a link has its sums and facts; all links of a message have
--   IsNarrowIfAny, IsNarrowLink, AreNarrow     the same of narrow expressions
use Rattle.std.specs.Prelude.{ℕ, Option, Some, None}
use Rattle.rx_types.specs.Tree.{Tree}
use Rattle.rx_types.specs.Narrow.{IsNarrow}
use Rattle.rx_graph.specs.Graph.{Arrow, Graph}
use Rattle.rx_graph.specs.Cycles.{IsLink}
use Rattle.rx_forms.specs.Normal.{IsNumeric, IsCondition}

abbrev pub IsNumericIfAny : Option Tree → Type 0
IsNumericIfAny None = Unit {0}
IsNumericIfAny (Some x) = IsNumeric x

-- the link's condition has a fact, and its First and Size have sums
pub record IsFormable (limit : ℕ → ℕ) (link : Arrow) : Type 0 where
  pub condition : IsCondition limit link.condition
  pub first : IsNumericIfAny link.first
  pub size : IsNumericIfAny link.size

abbrev pub IsNarrowIfAny : (ℕ → ℕ) → Option Tree → Type 0
IsNarrowIfAny limit None = Unit {0}
IsNarrowIfAny limit (Some x) = IsNarrow limit x

-- the link's expressions are narrow
pub record IsNarrowLink (limit : ℕ → ℕ) (link : Arrow) : Type 0 where
  pub condition : IsNarrow limit link.condition
  pub first : IsNarrowIfAny limit link.first
  pub size : IsNarrowIfAny limit link.size

abbrev pub AreFormable : (ℕ → ℕ) → Graph → Type 0
AreFormable limit m = (i : ℕ) (link : Arrow) → IsLink m i link → IsFormable limit link

abbrev pub AreNarrow : (ℕ → ℕ) → Graph → Type 0
AreNarrow limit m = (i : ℕ) (link : Arrow) → IsLink m i link → IsNarrowLink limit link
