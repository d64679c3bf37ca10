use Rattle.std.proofs.Common.{◌≡◌, pos}
use Rattle.std.specs.List.{filter}
use Rattle.std.specs.Ordering.{int_eq}
use Rattle.rx_linear.specs.Units.{coefficient}
use Rattle.rx_shadow.specs.Simple.{has}
use Rattle.rx_shadow.proofs.eliminating.split.Given as goal

abbrev pub invariant-loop-k : goal.invariant-loop-k
invariant-loop-k l = record {
  kept : l.kept.items ≡ filter (λ k. int_eq (coefficient l.variable k.row) (pos 0)) l.yielded;
  leaving : l.leaving.items ≡ filter (λ k. has l.variable k.row) l.yielded;
}
