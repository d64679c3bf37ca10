use Rattle.std.proofs.Common.{arith}
use Rattle.std.proofs.lemmas.Int.{ints, clamps}
use Rattle.rx_types.proofs.interval.least.Goals as goal

pub returns : goal.returns
returns c = omega (arith, ints, clamps)
