use Rattle.std.proofs.Common.{◌≡◌, ◌++◌, drop, pos, true}
use Rattle.std.specs.List.{list_all}
use Rattle.rx_model.specs.Sums.{weighted_sum}
use Rattle.rx_forms.specs.Limits.{is_word}
use Rattle.rx_forms.specs.Code.{sign}
use Rattle.rx_forms.proofs.arithmetic.side_by_side.Given as goal

abbrev pub invariant-loop-place : goal.invariant-loop-place
invariant-loop-place l =
    (l.numbers.items ++ weighted_sum (drop l.place l.left) (pos 1) (drop l.place l.right) (sign l.less) ≡ weighted_sum l.left (pos 1) l.right (sign l.less))
    × (list_all is_word l.numbers.items ≡ true)
