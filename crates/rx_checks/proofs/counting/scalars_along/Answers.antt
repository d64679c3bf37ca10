use Rattle.std.proofs.Common.{arith}
use Rattle.rx_checks.proofs.Numbered.{scalars_next}
use Rattle.rx_checks.proofs.counting.scalars_along.Goals as goal

pub loop-index-preserved : goal.loop-index-preserved
loop-index-preserved c =
    let e = scalars_next c.args.message.now.domains c.args.message.now.graph c.args.path.now c.loop-index.index-index c.loop-index-test.true in
    record {
      told = omega (arith, e, c.loop-index.invariant.told, c.scalars_under-count.ensures.value);
      few = omega (arith, c.loop-index.invariant.few, c.scalars_under-count.ensures.one);
    }
