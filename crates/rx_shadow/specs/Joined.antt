-- Rows joined one after another to nothing, as a search keeps them.
--   are_numbered     each row has its place for its number
--   IsJoined         rows over n variables, within the limits, each with its place
--   IsSolvedAt       the answer for such rows
use Rattle.std.specs.Prelude.{◌≡◌, ◌≤◌, List, [], ◌∷◌, ℕ, suc, Bool, true, ◌&&◌, ◌==◌, length}
use Rattle.rx_linear.specs.declared.row.Row.{Row}
use Rattle.rx_linear.specs.Steps.{closes}
use Rattle.rx_shadow.specs.declared.known.Known.{Known}
use Rattle.rx_shadow.specs.declared.solving.Solved.{Solved}
use Rattle.rx_shadow.specs.declared.solving.Solved.TheVariants.{Point, Closed, NotSimple}
use Rattle.rx_shadow.specs.Bounds.{narrowest}
use Rattle.rx_shadow.specs.Simple.{Outcome, Clash, TrueRows, Neither}
use Rattle.rx_shadow.specs.Known.{AllFit}
use Rattle.rx_shadow.specs.Solving.{IsPoint}

-- each known row's number is its place, the first one's being n
abbrev pub are_numbered : ℕ → List Known → Bool
are_numbered n [] = true
are_numbered n (k ∷ known) = (k.number == n) && are_numbered (suc n) known

-- at most 192 variables, rows over them within the limits, each with its place
pub record IsJoined (variables : ℕ) (known : List Known) : Type 0 where
  pub few : variables ≤ 192
  pub fit : AllFit variables known
  pub numbered : are_numbered 0 known ≡ true

-- for rows over n variables and what their elimination comes to:
-- after a clash at most 524,288 steps that close the rows, at true rows a point of them, and otherwise the narrowest variable
abbrev pub IsSolvedAt : ℕ → List Row → Outcome → Solved → Type 0
IsSolvedAt n rows Clash (Closed steps) = (length steps.items ≤ 524288) × (closes rows steps.items ≡ true)
IsSolvedAt n rows Clash (Point point) = ⊥
IsSolvedAt n rows Clash (NotSimple variable) = ⊥
IsSolvedAt n rows TrueRows (Closed steps) = ⊥
IsSolvedAt n rows TrueRows (Point point) = IsPoint n rows point.items
IsSolvedAt n rows TrueRows (NotSimple variable) = ⊥
IsSolvedAt n rows Neither (Closed steps) = ⊥
IsSolvedAt n rows Neither (Point point) = ⊥
IsSolvedAt n rows Neither (NotSimple variable) = variable ≡ narrowest n rows
