use Rattle.std.proofs.lemmas.Result.{err_from_is_err_and}
use Rattle.rx_closure.proofs.ClosureLemmas.{begin_unread}
use Rattle.rx_closure.proofs.closure.read_first.Goals as goal

pub returns-in_err-tree-clause-stopped : goal.returns-in_err-tree-clause-stopped
returns-in_err-tree-clause-stopped g c =
    let p = err_from_is_err_and c.from_residual-in_err-tree.result c.from_residual-in_err-tree.ensures.1 in
    rw (p.1, p.2) (begin_unread (g.H.Shelf.texts c.args.shelf.now) c.args.name.now c.in_err-tree.field-0.0 c.in_err-tree.ensures.stopped)
