use Rattle.std.proofs.Common.{arith}
use Rattle.rx_layout.proofs.Checking.{row_added}
use Rattle.rx_layout.proofs.checklist.add_pairs_from.Goals as goal

pub loop-first-preserved : goal.loop-first-preserved
loop-first-preserved c = λ domains m links e.
    row_added domains m c.args.node c.loop-first.first links c.loop-first.goals.items _ _ (omega (arith, e, c.loop-first-test.true)) (c.in_ok-add_pairs_with.ensures domains m links e) (c.loop-first.invariant domains m links e)
