use Rattle.std.proofs.Common.{◌≡◌, map, take}
use Rattle.rx_judge.specs.Form.{scaled_number}
use Rattle.rx_judge.proofs.form.scaled_numbers.Given as goal

abbrev pub invariant-loop-number : goal.invariant-loop-number
invariant-loop-number l = l.scaled.items ≡ map (scaled_number l.factor) (take l.number-index l.numbers)
