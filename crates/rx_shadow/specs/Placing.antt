-- A number of a point, raised until a row holds.
use Rattle.std.specs.Prelude.{◌≡◌, ℕ, List, true, ℤ, pos, ◌≤ℤ◌, get_or, set}
use Rattle.rx_linear.specs.declared.row.Row.{Row}
use Rattle.rx_linear.specs.Joining.{holds}

-- the number of variable x became the least one, from its old one up, at which the row holds
pub record IsRaised (x : ℕ) (row : Row) (old new : List ℤ) : Type 0 where
  pub value : ℤ
  pub placed : new ≡ set old x value
  pub above : get_or old x (pos 0) ≤ℤ value
  pub least : (w : ℤ) → get_or old x (pos 0) ≤ℤ w → holds (set old x w) row ≡ true → value ≤ℤ w
  pub true_there : holds new row ≡ true
