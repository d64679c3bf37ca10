use Rattle.std.proofs.Common.{◌≡◌}
use Rattle.std.proofs.lemmas.Result.{err_from_is_err_and}
use Rattle.rx_closure.specs.declared.closure.Stop.{Stop}
use Rattle.rx_closure.specs.declared.closure.Stop.TheVariants.{Fault}
use Rattle.rx_closure.specs.Closure.{IsRefused}
use Rattle.rx_closure.proofs.ClosureLemmas.{read_by, unread_by, refused_no_fault}
use Rattle.rx_closure.proofs.closure.read.Goals as goal

pub returns-clause-some : goal.returns-clause-some
returns-clause-some g c =
    let has = rw c.in-Some.is at c.in_ok-text.ensures.some in
    read_by (g.H.Shelf.texts c.args.shelf.now) c.args.name.now c.in-Some.text.items c.in_ok-tree.tree has (rw c.as_slice.ensures.value at c.in_ok-tree.ensures.tree)

pub returns-in_err-tree-clause-stopped : goal.returns-in_err-tree-clause-stopped
returns-in_err-tree-clause-stopped g c =
    let has = rw c.in-Some.is at c.in_ok-text.ensures.some in
    let p = err_from_is_err_and c.from_residual-in_err-tree.result c.from_residual-in_err-tree.ensures.1 in
    rw (p.1, p.2) (unread_by (g.H.Shelf.texts c.args.shelf.now) c.args.name.now c.in-Some.text.items c.in_err-tree.field-0.0 has (rw c.as_slice.ensures.value at c.in_err-tree.ensures.refused))

pub returns-in_err-tree-clause-cause : goal.returns-in_err-tree-clause-cause
returns-in_err-tree-clause-cause g c e =
    let p = err_from_is_err_and c.from_residual-in_err-tree.result c.from_residual-in_err-tree.ensures.1 in
    let stop : Stop = c.in_err-tree.field-0.0 in
    let fault : stop ≡ Fault = cc in
    absurd (refused_no_fault c.args.name.now (IsRefused c.as_slice.result.now) stop c.in_err-tree.ensures.refused fault)
