use Rattle.std.proofs.Common.{◌≡◌, ◌++◌, [], drop, pos, true}
use Rattle.std.specs.List.{list_all}
use Rattle.rx_model.specs.Sums.{weighted_sum}
use Rattle.rx_forms.specs.Limits.{is_word}
use Rattle.rx_forms.proofs.arithmetic.each_times.Given as goal

abbrev pub invariant-loop-place : goal.invariant-loop-place
invariant-loop-place l =
    (l.products.items ++ weighted_sum (drop l.place l.numbers) l.times [] (pos 1) ≡ weighted_sum l.numbers l.times [] (pos 1))
    × (list_all is_word l.products.items ≡ true)
