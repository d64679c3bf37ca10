-- What holds of expressions and scalar types.
use Rattle.std.specs.Prelude.{◌≡◌, ℕ, ◌≤◌, true}
use Rattle.rx_types.specs.Domain.{Domain, IsNumberOf, greatest_of}
use Rattle.rx_types.specs.Environment.{Environment}
use Rattle.rx_types.specs.Narrow.{IsIn, interval_of, single, IsNarrow, StaysWithin}
use Rattle.rx_types.specs.Static.{is_static, static_value}
use Rattle.rx_types.specs.Tree.{Tree}
use Rattle.rx_types.specs.Value.{value_of}

-- the value of a narrow expression lies in its interval
abbrev pub ValueInInterval : Type 0
ValueInInterval = (limit : ℕ → ℕ) (e : Environment) (x : Tree) → StaysWithin limit e → IsNarrow limit x → IsIn (value_of x e) (interval_of limit x)

-- the interval of a static expression is its value alone, which is the same everywhere
pub record IsStaticEverywhere (x : Tree) : Type 0 where
  pub interval : (limit : ℕ → ℕ) → interval_of limit x ≡ single (static_value x)
  pub value : (e : Environment) → value_of x e ≡ static_value x

abbrev pub StaticInInterval : Type 0
StaticInInterval = (x : Tree) → is_static x ≡ true → IsStaticEverywhere x

-- no number of a type is above the greatest
abbrev pub NumbersUpToGreatest : Type 0
NumbersUpToGreatest = (t : Domain) (n : ℕ) → IsNumberOf t n → n ≤ greatest_of t
