use Rattle.std.proofs.Common.{◌≡◌, ◌≤◌, length, Some}
use Rattle.std.specs.Prelude.{slice_get}
use Rattle.std.proofs.lemmas.Result.{err_from_is_err_and}
use Rattle.rx_closure.specs.declared.closure.Stop.{Stop}
use Rattle.rx_closure.specs.declared.closure.Stop.TheVariants.{Fault}
use Rattle.rx_closure.specs.Closure.{added, withs_of}
use Rattle.rx_closure.proofs.ClosureLemmas.{step_passes, step_reads, stops_crowded, too_many_no_fault, added-longer, fetches_none, fetches_one, paired_more}
use Rattle.rx_closure.proofs.closure.step.Goals as goal

pub returns-in_default-clause-step : goal.returns-in_default-clause-step
returns-in_default-clause-step g c =
    let none = rw c.as_slice.ensures.value at (rw c.in_default.is at c.in_ok-package.ensures.none) in
    step_passes (g.H.Shelf.texts c.args.shelf.now) c.args.k c.args.names.now.items c.requires.after none

pub returns-in_default-clause-fetched : goal.returns-in_default-clause-fetched
returns-in_default-clause-fetched g c =
    let none = rw c.as_slice.ensures.value at (rw c.in_default.is at c.in_ok-package.ensures.none) in
    fetches_none (g.H.Shelf.texts c.args.shelf.now) c.args.names.now.items c.args.packages.now.asked.items c.args.packages.now.trees.items c.args.k none

pub returns-clause-step : goal.returns-clause-step
returns-clause-step g c =
    let names = c.args.names.now.items in
    let p = c.in-Some.package in
    let there : slice_get names c.args.k ≡ Some p.name = rw c.as_slice.ensures.value at (rw c.in-Some.is at c.in_ok-package.ensures.there) in
    let has = rw c.in-Some.is at c.in_ok-package.ensures.some in
    step_reads (g.H.Shelf.texts c.args.shelf.now) c.args.k names c.take_in.new.names.items p.name p.tree there has c.in_ok-take_in.ensures.added c.in_ok-take_in.ensures.few

pub returns-clause-fetched : goal.returns-clause-fetched
returns-clause-fetched g c =
    let names = c.args.names.now.items in
    let p = c.in-Some.package in
    let there : slice_get names c.args.k ≡ Some p.name = rw c.as_slice.ensures.value at (rw c.in-Some.is at c.in_ok-package.ensures.there) in
    let has = rw c.in-Some.is at c.in_ok-package.ensures.some in
    fetches_one (g.H.Shelf.texts c.args.shelf.now) names c.take_in.new.names.items c.args.packages.now.asked.items c.take_in.new.packages.asked.items c.args.packages.now.trees.items c.take_in.new.packages.trees.items c.args.k p.name p.tree there has
    c.in_ok-take_in.ensures.added c.in_ok-take_in.ensures.asked c.in_ok-take_in.ensures.trees

pub returns-clause-paired : goal.returns-clause-paired
returns-clause-paired g c =
    let p = c.in-Some.package in
    paired_more c.args.packages.now.asked.items c.take_in.new.packages.asked.items c.args.packages.now.trees.items c.take_in.new.packages.trees.items p.name p.tree c.in_ok-take_in.ensures.asked c.in_ok-take_in.ensures.trees c.requires.paired.same

pub returns-clause-longer : goal.returns-clause-longer
returns-clause-longer g c =
    let names = c.args.names.now.items in
    let longer : length names ≤ length (added names (withs_of c.in-Some.package.tree)) = added-longer names (withs_of c.in-Some.package.tree) in
    rw c.in_ok-take_in.ensures.added longer

pub returns-in_err-take_in-clause-stopped : goal.returns-in_err-take_in-clause-stopped
returns-in_err-take_in-clause-stopped g c =
    let names = c.args.names.now.items in
    let n = c.in-Some.package in
    let there : slice_get names c.args.k ≡ Some n.name = rw c.as_slice.ensures.value at (rw c.in-Some.is at c.in_ok-package.ensures.there) in
    let has = rw c.in-Some.is at c.in_ok-package.ensures.some in
    let p = err_from_is_err_and c.from_residual-in_err-take_in.result c.from_residual-in_err-take_in.ensures.1 in
    rw (p.1, p.2) (stops_crowded (g.H.Shelf.texts c.args.shelf.now) c.args.k names n.name n.tree c.in_err-take_in.field-0.0 there has c.in_err-take_in.ensures.many)

pub returns-in_err-take_in-clause-cause : goal.returns-in_err-take_in-clause-cause
returns-in_err-take_in-clause-cause g c e =
    let p = err_from_is_err_and c.from_residual-in_err-take_in.result c.from_residual-in_err-take_in.ensures.1 in
    let stop : Stop = c.in_err-take_in.field-0.0 in
    let fault : stop ≡ Fault = cc in
    absurd (too_many_no_fault (length (added c.args.names.now.items (withs_of c.in-Some.package.tree))) stop c.in_err-take_in.ensures.many fault)
