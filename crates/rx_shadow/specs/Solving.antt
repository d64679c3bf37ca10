-- What `solve` answers.
--   IsPoint     so many numbers, each within the limits, at which all rows hold
--   IsFound     the answer for known rows, after at most so many rounds
--   IsSolved    the answer for a system
use Rattle.std.specs.Prelude.{◌≡◌, List, [], ℕ, ◌+◌, ◌*◌, ◌^◌, ◌≤◌, ◌<◌, true, ℤ, pos, set, length, replicate, ◌++◌, ◌∷◌}
use Rattle.rx_linear.specs.declared.row.Row.{Row}
use Rattle.rx_linear.specs.declared.step.Step.{Step}
use Rattle.rx_linear.specs.Rows.{AllBelow}
use Rattle.rx_linear.specs.Systems.{LinearSystem}
use Rattle.rx_linear.specs.Joining.{all_hold, joined}
use Rattle.rx_linear.specs.Steps.{closes}
use Rattle.rx_shadow.specs.declared.known.Known.{Known}
use Rattle.rx_shadow.specs.declared.known.Derived.{Derived}
use Rattle.rx_shadow.specs.declared.solving.Solved.{Solved}
use Rattle.rx_shadow.specs.declared.solving.Solved.TheVariants.{Point, Closed, NotSimple}
use Rattle.rx_shadow.specs.Bounds.{narrowest}
use Rattle.rx_shadow.specs.Simple.{Outcome, Clash, TrueRows, Neither}
use Rattle.rx_shadow.specs.Known.{rows_of, AllFit}
use Rattle.rx_shadow.specs.Derivations.{Derives}

-- a number for each of n variables, below 2 ^ 100 in magnitude, at which all rows hold
pub record IsPoint (n : ℕ) (rows : List Row) (point : List ℤ) : Type 0 where
  pub whole : length point ≡ n
  pub small : AllBelow (2 ^ 100) point
  pub holds : all_hold point rows ≡ true

-- the answer is those steps and one more
abbrev pub IsClosedBy : List Step → Step → Solved → Type 0
IsClosedBy steps step (Closed more) = more.items ≡ steps ++ step ∷ []
IsClosedBy steps step (Point point) = ⊥
IsClosedBy steps step (NotSimple variable) = ⊥

-- the answer is the point of n zeros
abbrev pub IsOrigin : ℕ → Solved → Type 0
IsOrigin n (Point point) = point.items ≡ replicate n (pos 0)
IsOrigin n (Closed steps) = ⊥
IsOrigin n (NotSimple variable) = ⊥

-- if the answer is closing steps
abbrev pub IfClosed : Solved → Type 0 → Type 0
IfClosed (Closed steps) fact = fact
IfClosed (Point point) fact = Unit {0}
IfClosed (NotSimple variable) fact = Unit {0}

-- no integer point satisfies the system's rows
abbrev pub HasNoPoint : LinearSystem → Type 0
HasNoPoint system = (point : List ℤ) → all_hold point system.rows ≡ true → ⊥

-- for known rows: steps that go on from theirs, by two for each of 1,024 rows a round and one more, and that close what theirs are taken from
abbrev pub IsFound : ℕ → ℕ → Derived → Outcome → Solved → Type 0
IsFound rounds narrow rows Clash (Closed steps) = (length steps.items ≤ length rows.steps.items + 2048 * rounds + 1) × ((given : List Row) → Derives given rows [] → closes given steps.items ≡ true)
IsFound rounds narrow rows Clash (Point point) = ⊥
IsFound rounds narrow rows Clash (NotSimple variable) = ⊥
IsFound rounds narrow rows TrueRows (Closed steps) = ⊥
IsFound rounds narrow rows TrueRows (Point point) = IsPoint rows.variables (rows_of rows.known.items) point.items
IsFound rounds narrow rows TrueRows (NotSimple variable) = ⊥
IsFound rounds narrow rows Neither (Closed steps) = ⊥
IsFound rounds narrow rows Neither (Point point) = ⊥
IsFound rounds narrow rows Neither (NotSimple variable) = variable ≡ narrow

-- a point of numbers within the limits can be given a number of variable x at which the leaving rows hold
abbrev pub CanPlace : ℕ → List Known → Solved → Type 0
CanPlace x leaving (Point point) =
    (x < length point.items) × (length point.items ≤ 192) × AllFit (length point.items) leaving × AllBelow (2 ^ 100) point.items × ((w : ℤ) × (all_hold (set point.items x w) (rows_of leaving) ≡ true))
CanPlace x leaving (Closed steps) = Unit {0}
CanPlace x leaving (NotSimple variable) = Unit {0}

-- the answer where a variable has got its value: a point has one more number, and other answers stay
abbrev pub IsPlaced : ℕ → List Known → Solved → Solved → Type 0
IsPlaced x leaving (Point point) (Point placed) = (v : ℤ) × (placed.items ≡ set point.items x v) × AllBelow (2 ^ 100) placed.items × (all_hold placed.items (rows_of leaving) ≡ true)
IsPlaced x leaving (Point point) (Closed steps) = ⊥
IsPlaced x leaving (Point point) (NotSimple variable) = ⊥
IsPlaced x leaving (Closed steps) solved = solved ≡ Closed steps
IsPlaced x leaving (NotSimple variable) solved = solved ≡ NotSimple variable

-- for a system and what the elimination of its rows, joined to nothing, comes to:
-- after a clash at most 524,288 steps that close the joined rows, at true rows a point of the system, and otherwise the narrowest variable
abbrev pub IsSolved : LinearSystem → Outcome → Solved → Type 0
IsSolved system Clash (Closed steps) = (length steps.items ≤ 524288) × (closes (joined [] system.rows) steps.items ≡ true)
IsSolved system Clash (Point point) = ⊥
IsSolved system Clash (NotSimple variable) = ⊥
IsSolved system TrueRows (Closed steps) = ⊥
IsSolved system TrueRows (Point point) = IsPoint system.variables system.rows point.items
IsSolved system TrueRows (NotSimple variable) = ⊥
IsSolved system Neither (Closed steps) = ⊥
IsSolved system Neither (Point point) = ⊥
IsSolved system Neither (NotSimple variable) = variable ≡ narrowest system.variables (joined [] system.rows)
