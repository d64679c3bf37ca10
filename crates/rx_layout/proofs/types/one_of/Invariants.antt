use Rattle.std.proofs.Common.{◌≡◌, ◌++◌, drop, map}
use Rattle.rx_forms.specs.declared.linear.Form.{All}
use Rattle.rx_layout.specs.Types.{between}
use Rattle.rx_layout.proofs.types.one_of.Given as goal

abbrev pub invariant-loop-number : goal.invariant-loop-number
invariant-loop-number l = l.forms ++ map (λ n. All (between n n l.variable)) (drop l.number-index l.numbers) ≡ map (λ n. All (between n n l.variable)) l.numbers
