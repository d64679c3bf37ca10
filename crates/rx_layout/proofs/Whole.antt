-- The points of a goal's query are the numbers of partial paths that meet it.
use Rattle.std.proofs.Common.{◌≡◌, refl, sym, subst, ◌∙◌, ℕ, List, [], ◌∷◌, ℤ}
use Rattle.rx_types.specs.Domain.{Domain}
use Rattle.rx_graph.specs.declared.message.Node.{Node}
use Rattle.rx_graph.specs.declared.message.Node.TheVariants.{Start, At, Null}
use Rattle.rx_graph.specs.Graph.{Arrow, Graph, limit_of}
use Rattle.rx_graph.specs.Cycles.{IsLink, IsPath}
use Rattle.rx_graph.specs.Elaborated.{IsElaborated, IsSource, IsTarget}
use Rattle.rx_graph.proofs.Unique.{at_null}
use Rattle.rx_forms.specs.Steps
use Rattle.rx_forms.specs.Links.{AreFormable, AreNarrow}
use Rattle.rx_layout.specs.declared.goal.Goal.{Goal}
use Rattle.rx_layout.specs.declared.goal.Goal.TheVariants.{Exclusive, Taken, Reached, Position, Grid, Overlay, Cover, Whole}
use Rattle.rx_layout.specs.Goals.{source, IsGoal, HasLink}
use Rattle.rx_layout.specs.QueryOf
use Rattle.rx_layout.specs.Laws
use Rattle.rx_layout.specs.Laws.{PointsMeetGoals, GoalsHavePoints, QueriesAreEven}
use Rattle.rx_layout.proofs.Even.{query_even}
use Rattle.rx_layout.proofs.Taking.{exclusive_meets, exclusive_point, taken_meets, taken_point, reached_meets, reached_point}
use Rattle.rx_layout.proofs.Placing.{position_meets, position_point, overlay_meets, overlay_point, grid_meets, grid_point}
use Rattle.rx_layout.proofs.Covering.{cover_meets, cover_point, whole_meets, whole_point}

module _ (domains : List Domain) (m : Graph) (el : IsElaborated domains m) (formable : AreFormable (limit_of domains m) m) (narrow : AreNarrow (limit_of domains m) m) where
  -- ---- paths that do not end at null lead through fields

  no_source : (link : Arrow) → IsSource domains m link.source → link.source ≡ Null → ⊥
  no_source link h e = let n : IsSource domains m Null = subst (λ x. IsSource domains m x) e h in n

  nothing_behind : (path : List ℕ) (end : Node) → IsPath m Null path end → (end ≡ Null → ⊥) → ⊥
  nothing_behind [] end h n = n (sym h)
  nothing_behind (i ∷ path) end h n = no_source h.0 (el.links i h.0 h.1).source h.2

  onward : (target : Node) (i : ℕ) (link : Arrow) (at end : Node) (path : List ℕ) → IsTarget domains m target → link.target ≡ target → IsLink m i link → link.source ≡ at → IsPath m target path end → (end ≡ Null → ⊥)
      → ((f : ℕ) → IsPath m (At f) path end → Steps.LeadsThrough domains m (At f) path end) → Steps.LeadsThrough domains m at (i ∷ path) end
  onward Start i link at end path t e is s h n rest = absurd t
  onward (At f) i link at end path t e is s h n rest = (link, f, is, s, e, rest f h)
  onward Null i link at end path t e is s h n rest = absurd (nothing_behind path end h n)

  pub leads_through : (at : Node) (path : List ℕ) (end : Node) → IsPath m at path end → (end ≡ Null → ⊥) → Steps.LeadsThrough domains m at path end
  leads_through at [] end h n = h
  leads_through at (i ∷ path) end h n = onward h.0.target i h.0 at end path (el.links i h.0 h.1).target refl h.1 h.2 h.3 n (λ f p. leads_through (At f) path end p n)

  -- ---- a goal's paths do not end at null

  no_null : (node : Node) (n : ℕ) (P : Arrow → Type 0) → HasLink domains m node n P → node ≡ Null → ⊥
  no_null node n P h e = no_source h.1 (el.links h.0 h.1 h.2.is).source (h.2.source ∙ e)

  pub source_is_no_null : (goal : Goal) → IsGoal domains m goal → source goal ≡ Null → ⊥
  source_is_no_null (Exclusive node a b) h e = no_null node a _ h.1 e
  source_is_no_null (Taken node n) h e = no_null node n _ h e
  source_is_no_null (Reached f) h e = at_null f e
  source_is_no_null (Position node n) h e = no_null node n _ h e
  source_is_no_null (Grid node n) h e = no_null node n _ h e
  source_is_no_null (Overlay node n) h e = no_null node n _ h e
  source_is_no_null (Cover node n) h e = no_null node n _ h e
  source_is_no_null (Whole node n) h e = no_null node n _ h e

  -- ---- the law

  meets_by : (goal : Goal) (path : List ℕ) (point : List ℤ) → IsGoal domains m goal → Steps.LeadsThrough domains m Start path (source goal) → Laws.IsPoint (QueryOf.query_for domains m goal path) point → Laws.Meets domains m goal path point
  meets_by (Exclusive node a b) path point is lt at = exclusive_meets domains m el formable narrow node a b path point is lt at
  meets_by (Taken node n) path point is lt at = taken_meets domains m el formable narrow node n path point is lt at
  meets_by (Reached f) path point is lt at = reached_meets domains m el formable narrow f path point lt at
  meets_by (Position node n) path point is lt at = position_meets domains m el formable narrow node n path point is lt at
  meets_by (Grid node n) path point is lt at = grid_meets domains m el formable narrow node n path point is lt at
  meets_by (Overlay node n) path point is lt at = overlay_meets domains m el formable narrow node n path point is lt at
  meets_by (Cover node n) path point is lt at = cover_meets domains m el formable narrow node n path point is lt at
  meets_by (Whole node n) path point is lt at = whole_meets domains m el formable narrow node n path point is lt at

  pub points_meet : PointsMeetGoals domains m
  points_meet goal path point is p at = meets_by goal path point is (leads_through Start path (source goal) p (source_is_no_null goal is)) at

  pub goals_point : GoalsHavePoints domains m
  goals_point (Exclusive node a b) total path fields is h = exclusive_point domains m el formable narrow node a b total path fields h
  goals_point (Taken node n) total path fields is h = taken_point domains m el formable narrow node n total path fields h
  goals_point (Reached f) total path fields is h = reached_point domains m el formable narrow f total path fields h
  goals_point (Position node n) total path fields is h = position_point domains m el formable narrow node n total path fields h
  goals_point (Grid node n) total path fields is h = grid_point domains m el formable narrow node n total path fields is h
  goals_point (Overlay node n) total path fields is h = overlay_point domains m el formable narrow node n total path fields h
  goals_point (Cover node n) total path fields is h = cover_point domains m el formable narrow node n total path fields h
  goals_point (Whole node n) total path fields is h = whole_point domains m el formable narrow node n total path fields h

pub queries_even : (domains : List Domain) (m : Graph) → QueriesAreEven domains m
queries_even domains m goal path = query_even (QueryOf.asked_at domains m goal path).variables (QueryOf.asked_form domains m path (QueryOf.asked_at domains m goal path))
