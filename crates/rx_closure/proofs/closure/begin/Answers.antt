use Rattle.std.proofs.Common.{◌≡◌, ◌∷◌, [], ◌≤◌, length, ap, arith}
use Rattle.std.proofs.lemmas.Result.{err_from_is_err_and}
use Rattle.rx_closure.specs.declared.closure.Stop.{Stop}
use Rattle.rx_closure.specs.declared.closure.Stop.TheVariants.{Fault}
use Rattle.rx_closure.specs.Closure.{added, withs_of}
use Rattle.rx_closure.proofs.ClosureLemmas.{begun, begin_crowded, too_many_no_fault, added-longer, fetches_first, paired_first}
use Rattle.rx_closure.proofs.closure.begin.Goals as goal

pub returns-clause-walked : goal.returns-clause-walked
returns-clause-walked g c =
    let p = c.in_ok-package.package in
    begun (g.H.Shelf.texts c.args.shelf.now) c.args.name.now (p.name ∷ []) c.in_ok-begun.begun.names.items p.tree (ap (λ n. n ∷ []) c.in_ok-package.ensures.name) c.in_ok-package.ensures.some c.in_ok-begun.ensures.names c.in_ok-begun.ensures.few

pub returns-clause-fetched : goal.returns-clause-fetched
returns-clause-fetched g c =
    let made = c.in_ok-begun.begun in
    let name = c.in_ok-package.ensures.name in
    fetches_first (g.H.Shelf.texts c.args.shelf.now) made.names.items made.packages.asked.items made.packages.trees.items c.args.name.now c.in_ok-package.package.tree c.in_ok-package.ensures.some (rw name at c.in_ok-begun.ensures.names)
    (rw name at c.in_ok-begun.ensures.asked) c.in_ok-begun.ensures.trees

pub returns-clause-paired : goal.returns-clause-paired
returns-clause-paired g c =
    let made = c.in_ok-begun.begun in
    paired_first made.packages.asked.items made.packages.trees.items c.in_ok-package.package.name c.in_ok-package.package.tree c.in_ok-begun.ensures.asked c.in_ok-begun.ensures.trees

pub returns-clause-some : goal.returns-clause-some
returns-clause-some g c =
    let p = c.in_ok-package.package in
    let longer : length (p.name ∷ []) ≤ length (added (p.name ∷ []) (withs_of p.tree)) = added-longer (p.name ∷ []) (withs_of p.tree) in
    let after : length c.in_ok-begun.begun.names.items ≡ length (added (p.name ∷ []) (withs_of p.tree)) = ap length c.in_ok-begun.ensures.names in
    omega arith

pub returns-in_err-begun-clause-stopped : goal.returns-in_err-begun-clause-stopped
returns-in_err-begun-clause-stopped g c =
    let n = c.in_ok-package.package in
    let p = err_from_is_err_and c.from_residual-in_err-begun.result c.from_residual-in_err-begun.ensures.1 in
    rw (p.1, p.2)
    (begin_crowded (g.H.Shelf.texts c.args.shelf.now) c.args.name.now (n.name ∷ []) n.tree c.in_err-begun.field-0.0 (ap (λ m. m ∷ []) c.in_ok-package.ensures.name) c.in_ok-package.ensures.some c.in_err-begun.ensures.many)

pub returns-in_err-begun-clause-cause : goal.returns-in_err-begun-clause-cause
returns-in_err-begun-clause-cause g c e =
    let p = err_from_is_err_and c.from_residual-in_err-begun.result c.from_residual-in_err-begun.ensures.1 in
    let stop : Stop = c.in_err-begun.field-0.0 in
    let fault : stop ≡ Fault = cc in
    absurd (too_many_no_fault (length (added (c.in_ok-package.package.name ∷ []) (withs_of c.in_ok-package.package.tree))) stop c.in_err-begun.ensures.many fault)
