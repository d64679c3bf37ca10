use Rattle.std.proofs.Common.{◌≡◌, ◌++◌, map, take}
use Rattle.rx_judge.specs.Form.{sum_term}
use Rattle.rx_judge.proofs.form.add_sums.Given as goal

abbrev pub invariant-loop-term : goal.invariant-loop-term
invariant-loop-term l = l.sums.items ≡ l.initial.sums.items ++ map (sum_term l.left l.right) (take l.term-index l.terms)
