use Rattle.std.proofs.Common.{◌≡◌, ◌≤◌, ◌-◌, length, take, true, not, ◌==◌}
use Rattle.std.specs.List.{list_all}
use Rattle.rx_syntax.proofs.number.base_len.Given as goal

abbrev pub invariant-loop-len : goal.invariant-loop-len
invariant-loop-len l = (l.len ≤ length l.run) × (list_all (λ b. not (b == 35)) (take l.len l.run) ≡ true)

abbrev pub decreases-loop-len : goal.decreases-loop-len
decreases-loop-len l = length l.run - l.len
