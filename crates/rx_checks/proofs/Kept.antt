-- The goals of a message, their sources, and how many paths lead there.
use Rattle.std.proofs.Common.{refl, ap, subst, ℕ, arith, List, [], ◌∷◌, length, inl, inr}
use Rattle.std.specs.List.{AllByRecursion}
use Rattle.rx_types.specs.Domain.{Domain}
use Rattle.rx_graph.specs.declared.message.Node.{Node}
use Rattle.rx_graph.specs.Graph.{Arrow, Graph}
use Rattle.rx_graph.specs.Cycles.{HasPathsUpTo, HasMorePathsTo}
use Rattle.rx_graph.specs.Elaborated.{IsElaborated, IsSource}
use Rattle.rx_graph.specs.Laws.{HasOneList}
use Rattle.rx_graph.specs.Checks.{IsNumbered}
use Rattle.rx_layout.specs.declared.goal.Goal.{Goal}
use Rattle.rx_layout.specs.declared.goal.Goal.TheVariants.{Exclusive, Taken, Reached, Position, Grid, Overlay, Cover, Whole}
use Rattle.rx_layout.specs.Goals.{source, IsGoal}
use Rattle.rx_layout.specs.Listed.{Among}

pub all_listed : (P : Goal → Type 0) (goals : List Goal) → ((g : Goal) → Among g goals → P g) → AllByRecursion P goals
all_listed P [] h = tt
all_listed P (g ∷ goals) h = (h g (inl refl), all_listed P goals (λ x a. h x (inr a)))

-- at most 4,096 paths and more than 4,096 paths are not both
pub few_or_many : (m : Graph) (end : Node) (n : ℕ) → HasOneList m → HasPathsUpTo m end n → HasMorePathsTo m end n → ⊥
few_or_many m end n one few many =
    let e = ap (λ (ps : List (List ℕ)). length ps) (one end few.0 many.0 few.1 many.1) in
    omega (arith, e, few.2, many.2)

module _ (domains : List Domain) (m : Graph) (el : IsElaborated domains m) where
  numbered_source : (node : Node) (n i : ℕ) (link : Arrow) → IsNumbered m node n i link → IsSource domains m node
  numbered_source node n i link h = subst (λ (x : Node). IsSource domains m x) h.source ((el.links i link h.is).source)

  -- links lead from the source of a goal
  pub source_is : (goal : Goal) → IsGoal domains m goal → IsSource domains m (source goal)
  source_is (Exclusive node a b) h = numbered_source node a h.1.0 h.1.1 h.1.2
  source_is (Taken node n) h = numbered_source node n h.0 h.1 h.2
  source_is (Reached f) h = h
  source_is (Position node n) h = numbered_source node n h.0 h.1 h.2
  source_is (Grid node n) h = numbered_source node n h.0 h.1 h.2
  source_is (Overlay node n) h = numbered_source node n h.0 h.1 h.2
  source_is (Cover node n) h = numbered_source node n h.0 h.1 h.2
  source_is (Whole node n) h = numbered_source node n h.0 h.1 h.2
