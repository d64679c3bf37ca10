-- What holds of goals and their queries.
--   IsPoint            a point of a query: a number for each variable, at which the query is satisfied
--   IsCutTo            the first numbers of a point are the length and those of the scalars
--   PointsMeetGoals    a point of a query has the numbers of a partial path that meets the goal
--   GoalsHavePoints    and such numbers have a point
--   QueriesAreEven     queries are even
--   QueriesAreBounded  when the rows of a query are joined, each variable has one that bounds it from below and one that bounds it
--                      from above
--   ListsGoals         the goals of a message are those that are listed
--   GoalsAreChecks     all goals hold exactly where all checks do
use Rattle.std.specs.Prelude.{◌≡◌, ◌↔◌, ◌<◌, ℕ, List, [], ◌∷◌, ℤ, pos, negsuc, Bool, true, ◌&&◌, length, take}
use Rattle.std.specs.List.{list_any}
use Rattle.rx_types.specs.Domain.{Domain}
use Rattle.rx_types.specs.Environment.{Placed}
use Rattle.rx_graph.specs.declared.message.Node.TheVariants.{Start}
use Rattle.rx_graph.specs.Graph.{Graph}
use Rattle.rx_graph.specs.Cycles.{IsPath}
use Rattle.rx_graph.specs.Checks.{AllHold}
use Rattle.rx_forms.specs.Points.{numbers_of}
use Rattle.rx_linear.specs.declared.row.Row.{Row}
use Rattle.rx_linear.specs.Units.{is_unit_row}
use Rattle.rx_linear.specs.Joining.{joined}
use Rattle.rx_proof.specs.declared.query.Query.{Query, out-Query}
use Rattle.rx_proof.specs.Queries.{satisfied, IsEven}
use Rattle.rx_layout.specs.declared.goal.Goal.{Goal}
use Rattle.rx_layout.specs.Goals.{source, MetBy, IsGoal, AllGoalsHold}
use Rattle.rx_layout.specs.QueryOf.{query_for}
use Rattle.rx_layout.specs.Listed.{Among, all_goals}

pub record IsPoint (query : Query) (point : List ℤ) : Type 0 where
  pub whole : length point ≡ (out-Query query).system.variables
  pub satisfies : satisfied query point ≡ true

-- variable x has a row alone with coefficient 1, and one with coefficient -1
abbrev pub has_unit_rows : ℕ → List Row → Bool
has_unit_rows x rows = list_any (is_unit_row x (pos 1)) rows && list_any (is_unit_row x (negsuc 0)) rows

module _ (domains : List Domain) (m : Graph) where
  abbrev pub IsCutTo : List ℤ → ℕ → List Placed → Type 0
  IsCutTo point total fields = take (length (pos total ∷ numbers_of domains m fields)) point ≡ pos total ∷ numbers_of domains m fields

  -- the point's first numbers are those of a partial path, at whose end the goal is met
  abbrev pub Meets : Goal → List ℕ → List ℤ → Type 0
  Meets goal path point = (total : ℕ) × (fields : List Placed) × MetBy domains m goal total path fields × IsCutTo point total fields

  abbrev pub PointsMeetGoals : Type 0
  PointsMeetGoals = (goal : Goal) (path : List ℕ) (point : List ℤ) → IsGoal domains m goal → IsPath m Start path (source goal) → IsPoint (query_for domains m goal path) point → Meets goal path point

  abbrev pub HasPoint : Goal → ℕ → List ℕ → List Placed → Type 0
  HasPoint goal total path fields = (point : List ℤ) × IsPoint (query_for domains m goal path) point × IsCutTo point total fields

  abbrev pub GoalsHavePoints : Type 0
  GoalsHavePoints = (goal : Goal) (total : ℕ) (path : List ℕ) (fields : List Placed) → IsGoal domains m goal → MetBy domains m goal total path fields → HasPoint goal total path fields

  abbrev pub QueriesAreEven : Type 0
  QueriesAreEven = (goal : Goal) (path : List ℕ) → IsEven (query_for domains m goal path)

  abbrev pub QueriesAreBounded : Type 0
  QueriesAreBounded =
      (goal : Goal) (path : List ℕ) (x : ℕ) → x < (out-Query (query_for domains m goal path)).system.variables → has_unit_rows x (joined [] (out-Query (query_for domains m goal path)).system.rows) ≡ true

  abbrev pub ListsGoals : Type 0
  ListsGoals = (goal : Goal) → IsGoal domains m goal ↔ Among goal (all_goals domains m)

  abbrev pub GoalsAreChecks : Type 0
  GoalsAreChecks = AllGoalsHold domains m ↔ AllHold domains m
