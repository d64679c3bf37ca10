use Rattle.std.proofs.Common.{◌+◌, arith, length, map}
use Rattle.rx_prover.specs.Trees.{as_tree}
use Rattle.rx_prover.proofs.Progress.{open_more}
use Rattle.rx_prover.proofs.walked.unfinished_case.Goals as goal

pub loop-preserved : goal.loop-preserved
loop-preserved c =
    let i = c.loop.invariant in
    record {
      most = omega (arith, i.most);
      within = omega (arith, c.loop-test.true);
      whole = open_more (map as_tree c.args.proofs.now) c.push-in-loop.new.self.items c.loop.trees.items c.args.next (length c.args.proofs.now + 1) c.loop.counter i.most i.whole c.in_ok-push-2.ensures.items;
    }
