use Rattle.std.proofs.Common.{arith}
use Rattle.rx_layout.proofs.Checking.{pair_added, pairs_done}
use Rattle.rx_layout.proofs.checklist.add_pairs_with.Goals as goal

pub loop-second-preserved : goal.loop-second-preserved
loop-second-preserved c = λ domains m links e.
    pair_added domains m c.args.node c.args.first c.loop-second.second links c.loop-second.goals.items _ _ (omega (arith, e, c.loop-second-test.true)) c.in_ok-push.ensures.items (c.loop-second.invariant domains m links e)

pub returns : goal.returns
returns c = λ domains m links e.
    pairs_done domains m c.args.node c.args.first c.loop-second.second links c.loop-second.goals.items _ (omega (arith, e, c.loop-second-test.false)) (c.loop-second.invariant domains m links e)
