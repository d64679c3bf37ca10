use Rattle.std.proofs.lemmas.Result.{err_from_is_err_and}
use Rattle.rx_grammar.proofs.Parts.{before_fits, longest_before, none_before, stop_found, stop_memory}
use Rattle.rx_grammar.proofs.part.shorter_expr.Goals as goal

pub longest_front-requires : goal.longest_front-requires
longest_front-requires c = rw c.split_at.ensures.front (before_fits c.args.items.now c.args.left c.requires.fault)

pub returns-in_err-found-clause-fault : goal.returns-in_err-found-clause-fault
returns-in_err-found-clause-fault c =
    let p = err_from_is_err_and c.from_residual.result c.from_residual.ensures.1 in
    rw (p.1, p.2, c.in_err-found.ensures.memory) (stop_memory _ _)

pub returns-in-Some-clause-found : goal.returns-in-Some-clause-found
returns-in-Some-clause-found c =
    let h = rw c.in-Some.is at c.in_ok-found.ensures.some in
    longest_before c.args.items.now c.args.left c.requires.fault _ _ (rw c.split_at.ensures.front at h)

pub returns-in-None-clause-fault : goal.returns-in-None-clause-fault
returns-in-None-clause-fault c =
    let h = rw c.in-None.is at c.in_ok-found.ensures.none in
    stop_found c.args.items.now c.args.left c.requires.fault (none_before c.args.items.now c.args.left c.requires.fault (rw c.split_at.ensures.front at h))
