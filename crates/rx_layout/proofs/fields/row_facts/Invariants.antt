use Rattle.std.proofs.Common.{◌≡◌, ◌++◌, drop, map}
use Rattle.rx_forms.specs.declared.linear.Form.{AtLeast}
use Rattle.rx_layout.proofs.fields.row_facts.Given as goal

abbrev pub invariant-loop-sum : goal.invariant-loop-sum
invariant-loop-sum l = l.facts ++ map (λ f. AtLeast f) (drop l.sum-index l.sums) ≡ map (λ f. AtLeast f) l.sums
