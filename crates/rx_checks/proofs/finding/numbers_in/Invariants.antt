use Rattle.std.proofs.Common.{◌≡◌, map, pos, take}
use Rattle.rx_checks.proofs.finding.numbers_in.Given as goal

abbrev pub invariant-loop-number : goal.invariant-loop-number
invariant-loop-number l = map (λ n. pos n) l.all.items ≡ take l.number-index l.numbers
