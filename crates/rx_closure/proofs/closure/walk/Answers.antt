use Rattle.std.proofs.Common.{◌+◌, take, arith}
use Rattle.std.proofs.lemmas.Result.{err_from_is_err_and}
use Rattle.rx_closure.proofs.ClosureLemmas.{same_on, walks_on, walk_stops, walk_closes, fetches_on}
use Rattle.rx_closure.proofs.closure.walk.Goals as goal

pub loop-k-preserved : goal.loop-k-preserved
loop-k-preserved g c =
    let told = g.H.Shelf.texts c.args.shelf.now in
    let now = g.H.Shelf.texts c.loop-k.shelf in
    let inv = c.loop-k.invariant in
    let longer = c.in_ok-step.ensures.longer in
    let test = c.loop-k-test.true in
    let falls = c.step.ensures.never_falls in
    let before = inv.faults in
    record {
      after = omega arith;
      within = omega arith;
      few = c.in_ok-step.ensures.few;
      walked = walks_on told now c.args.names.now.items c.loop-k.names.items c.step.new.names.items c.loop-k.k inv.same inv.walked c.in_ok-step.ensures.step;
      fetched = fetches_on told now (take 1 c.args.names.now.items) c.args.packages.now.asked.items (take c.loop-k.k c.loop-k.names.items) c.loop-k.packages.asked.items (take (c.loop-k.k + 1) c.step.new.names.items) c.step.new.packages.asked.items
          c.args.packages.now.trees.items c.loop-k.packages.trees.items c.step.new.packages.trees.items inv.same inv.fetched c.in_ok-step.ensures.fetched;
      paired = c.in_ok-step.ensures.paired;
      same = same_on told now (g.H.Shelf.texts c.step.new.shelf) inv.same c.step.ensures.same;
      faults = omega arith;
    }

pub returns-clause-closed : goal.returns-clause-closed
returns-clause-closed g c =
    let within = c.loop-k.invariant.within in
    let past = c.loop-k-test.false in
    walk_closes (g.H.Shelf.texts c.args.shelf.now) c.args.names.now.items c.loop-k.names.items c.args.packages.now.asked.items c.loop-k.packages.asked.items c.args.packages.now.trees.items c.loop-k.packages.trees.items c.loop-k.k (omega arith) c.loop-k.invariant.walked
    c.loop-k.invariant.fetched

pub returns-in_err-step-clause-stopped : goal.returns-in_err-step-clause-stopped
returns-in_err-step-clause-stopped g c =
    let p = err_from_is_err_and c.from_residual.result c.from_residual.ensures.1 in
    rw (p.1, p.2) (walk_stops (g.H.Shelf.texts c.args.shelf.now) (g.H.Shelf.texts c.loop-k.shelf) c.args.names.now.items c.loop-k.names.items c.loop-k.k c.in_err-step.field-0.0 c.loop-k.invariant.same c.loop-k.invariant.walked c.in_err-step.ensures.stopped)

pub returns-in_err-step-clause-same : goal.returns-in_err-step-clause-same
returns-in_err-step-clause-same g c = same_on (g.H.Shelf.texts c.args.shelf.now) (g.H.Shelf.texts c.loop-k.shelf) (g.H.Shelf.texts c.step.new.shelf) c.loop-k.invariant.same c.step.ensures.same

pub step-requires-clause-paired : goal.step-requires-clause-paired
step-requires-clause-paired g c = c.loop-k.invariant.paired

pub returns-clause-paired : goal.returns-clause-paired
returns-clause-paired g c = c.loop-k.invariant.paired
