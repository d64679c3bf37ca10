use Rattle.std.proofs.Common.{◌≡◌, take, false}
use Rattle.std.specs.List.{list_any}
use Rattle.rx_linear.specs.Joining.{is_false}
use Rattle.rx_shadow.proofs.exact.false_row.Given as goal

abbrev pub invariant-loop-k : goal.invariant-loop-k
invariant-loop-k l = list_any (λ k. is_false k.row) (take l.k-index l.known) ≡ false
