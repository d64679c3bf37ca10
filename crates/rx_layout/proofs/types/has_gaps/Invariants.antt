use Rattle.std.proofs.Common.{◌≡◌, ◌-◌, drop}
use Rattle.rx_layout.specs.Types.{has_gaps}
use Rattle.rx_layout.proofs.types.has_gaps.Given as goal

abbrev pub invariant-loop-place : goal.invariant-loop-place
invariant-loop-place l = has_gaps (drop (l.place - 1) l.numbers) ≡ has_gaps l.numbers
