-- Steps that derive known rows.
--   row_after      the row with a number after the steps
--   row_given      the row that one more step gives
--   Derives        the steps derive each known row, at its number
--   IsClosing      a step that gives a false row
--   Reaches        the rows that joining leaves, or that it passes the limits
--   Continues      what joining keeps
--   Eliminates     what the elimination of a variable leaves
--   HasRoom        more steps can be counted
use Rattle.std.specs.Prelude.{◌≡◌, List, ℕ, ◌+◌, ◌*◌, ◌≤◌, ◌<◌, ◌^◌, Bool, true, false, [], ◌++◌, length, Option, Some, slice_get}
use Rattle.std.specs.List.{All, filter}
use Rattle.std.specs.Option.{option_and_then}
use Rattle.rx_linear.specs.declared.row.Row.{Row}
use Rattle.rx_linear.specs.declared.step.Step.{Step}
use Rattle.rx_linear.specs.Joining.{is_false}
use Rattle.rx_linear.specs.Steps.{rows_after, step_gives}
use Rattle.rx_shadow.specs.declared.known.Known.{Known}
use Rattle.rx_shadow.specs.declared.known.Derived.{Derived}
use Rattle.rx_shadow.specs.Known.{rows_of, AllFit}
use Rattle.rx_shadow.specs.Simple.{within_limits, has, eliminated}

-- the row with that number after the steps
abbrev pub row_after : List Row → List Step → ℕ → Option Row
row_after given steps number = option_and_then (λ rows. slice_get rows number) (rows_after given steps)

-- the row that one more step gives after the steps
abbrev pub row_given : List Row → List Step → Step → Option Row
row_given given steps step = option_and_then (λ rows. step_gives rows step) (rows_after given steps)

-- the steps may be taken from the given rows, and each of the known rows stands at its number after them
pub record IsDerived (given : List Row) (count : ℕ) (steps : List Step) (known : List Known) : Type 0 where
  pub count_is : length given ≡ count
  pub taken : (rows : List Row) × (rows_after given steps ≡ Some rows)
  pub each : All (λ k. row_after given steps k.number ≡ Some k.row) known

-- the same of the known rows of a derivation, and of others
abbrev pub Derives : List Row → Derived → List Known → Type 0
Derives given derived others = IsDerived given derived.given derived.steps.items (others ++ derived.known.items)

-- one more step gives a row without variables that is false
abbrev pub IsClosing : List Known → Step → Type 0
IsClosing known step =
    (given : List Row) (count : ℕ) (steps : List Step) → IsDerived given count steps known → (row : Row) × (row_given given steps step ≡ Some row) × (is_false row ≡ true)

-- where the limits are kept the rows are the target, else the target is not within them
abbrev pub Reaches : Bool → List Row → List Row → Type 0
Reaches true target rows = rows ≡ target
Reaches false target rows = within_limits target ≡ false

-- rows were joined within the limits, each new one by two steps
pub record Continues (before after : Derived) : Type 0 where
  pub fits : AllFit after.variables after.known.items
  pub few : length after.known.items ≤ 1024
  pub same_variables : after.variables ≡ before.variables
  pub same_given : after.given ≡ before.given
  pub two_each : length after.steps.items + 2 * length before.known.items ≡ length before.steps.items + 2 * length after.known.items

-- the elimination of variable x took the leaving rows away, and left the next ones within the limits
pub record Eliminates (x : ℕ) (before : Derived) (leaving : List Known) (next : Derived) : Type 0 where
  pub left : leaving ≡ filter (λ k. has x k.row) before.known.items
  pub reached : rows_of next.known.items ≡ eliminated before.variables x (rows_of before.known.items)
  pub within : within_limits (rows_of next.known.items) ≡ true
  pub fits : AllFit before.variables next.known.items
  pub same_variables : next.variables ≡ before.variables
  pub same_given : next.given ≡ before.given
  pub few_steps : length next.steps.items ≤ length before.steps.items + 2048
  pub derived : (given : List Row) → Derives given before [] → Derives given next []

-- there is room for the steps of as many rows as the limit allows
pub record HasRoom (derived : Derived) : Type 0 where
  pub few : length derived.known.items ≤ 1024
  pub few_given : derived.given < 2 ^ 60
  pub few_steps : length derived.steps.items + 2 * 1024 < 2 ^ 59 + 2 * length derived.known.items
