use Rattle.std.proofs.lemmas.Result.{err_from_is_err_and}
use Rattle.rx_closure.proofs.ClosureLemmas.{closes, close_stops}
use Rattle.rx_closure.proofs.closure.close.Goals as goal

pub returns-clause-closed : goal.returns-clause-closed
returns-clause-closed g c =
    let made = c.in_ok-begun.begun in
    closes (g.H.Shelf.texts c.args.shelf.now) (g.H.Shelf.texts c.begin.new.shelf) c.args.name.now made.names.items made.packages.asked.items c.walk.new.packages.asked.items made.packages.trees.items c.walk.new.packages.trees.items c.begin.ensures.same
    c.in_ok-begun.ensures.walked c.in_ok-begun.ensures.fetched c.in_ok-walk.ensures.closed

pub returns-in_err-walk-clause-stopped : goal.returns-in_err-walk-clause-stopped
returns-in_err-walk-clause-stopped g c =
    let p = err_from_is_err_and c.from_residual-in_err-walk.result c.from_residual-in_err-walk.ensures.1 in
    rw (p.1, p.2)
    (close_stops (g.H.Shelf.texts c.args.shelf.now) (g.H.Shelf.texts c.begin.new.shelf) c.args.name.now c.in_ok-begun.begun.names.items c.in_err-walk.field-0.0 c.begin.ensures.same c.in_ok-begun.ensures.walked c.in_err-walk.ensures.stopped)
