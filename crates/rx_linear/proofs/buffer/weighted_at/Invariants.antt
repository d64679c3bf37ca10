use Rattle.std.proofs.Common.{◌≡◌, ◌+◌, ◌++◌, take}
use Rattle.std.specs.Prelude.{slice_range}
use Rattle.rx_model.specs.Sums.{weighted_sum}
use Rattle.rx_linear.proofs.buffer.weighted_at.Given as goal

abbrev pub invariant-loop-i : goal.invariant-loop-i
invariant-loop-i l =
    take (l.target + l.i) l.cells ≡ take l.target l.fn.cells ++ take l.i (weighted_sum (slice_range l.fn.cells l.left (l.left + l.width)) l.left_times (slice_range l.fn.cells l.right (l.right + l.width)) l.right_times)
