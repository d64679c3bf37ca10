use Rattle.std.proofs.Common.{sym, ◌∙◌, arith}
use Rattle.rx_shadow.specs.Simple.{is_exact}
use Rattle.rx_shadow.specs.Known.{rows_of}
use Rattle.rx_shadow.proofs.Exactness.{greatest_below_step}
use Rattle.rx_shadow.proofs.exact.greatest_exact.Goals as goal

pub loop-below-preserved : goal.loop-below-preserved
loop-below-preserved c = record {
  within = let w = c.loop-below.invariant.within in omega arith;
  same = greatest_below_step (is_exact (rows_of c.args.known.now)) c.loop-below.below c.loop-below-test.true (sym c.is_exact.ensures ∙ c.if-is_exact.false) ∙ c.loop-below.invariant.same;
}
