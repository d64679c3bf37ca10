use Rattle.std.proofs.Common.{◌≡◌, ℕ, ℤ, List, Option, Bor, take, true, option_map}
use Rattle.std.specs.List.{Contains}
use Rattle.std.specs.Option.{IfSome}
use Rattle.rx_linear.specs.Units.{is_unit_row}
use Rattle.rx_shadow.specs.declared.known.Known.{Known}
use Rattle.rx_shadow.specs.Known.{rows_of}
use Rattle.rx_shadow.proofs.Greatest.{greatest_constant}
use Rattle.rx_shadow.proofs.bounds.greatest_unit.Given as goal

pub record NextInvariant (x : ℕ) (a : ℤ) (known : List Known) (i : ℕ) (greatest : Option (Bor Known)) : Type 0 where
  pub bound : option_map (λ (k : Bor Known). k.now.row.least) greatest ≡ greatest_constant x a (rows_of (take i known))
  pub among : IfSome greatest (λ k. Contains known k.now)
  pub unit : IfSome greatest (λ k. is_unit_row x a k.now.row ≡ true)

abbrev pub invariant-loop-next : goal.invariant-loop-next
invariant-loop-next l = NextInvariant l.variable l.number l.known l.next-index l.greatest
