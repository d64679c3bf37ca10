use Rattle.std.proofs.Common.{arith}
use Rattle.rx_forms.proofs.Intervals.{small_size}
use Rattle.rx_forms.proofs.interval.all_ones.Goals as goal

pub overflow_shl-result : goal.overflow_shl-result
overflow_shl-result c = let h = small_size c.args.size c.requires.small in omega arith
