use Rattle.std.proofs.lemmas.Result.{err_from_is_err_and}
use Rattle.rx_spec.proofs.Passing.{passing_tells}
use Rattle.rx_spec.proofs.elaboration.types_of.Goals as goal

pub returns-in_err-add_types-clause-refusal : goal.returns-in_err-add_types-clause-refusal
returns-in_err-add_types-clause-refusal c =
    let p = err_from_is_err_and c.from_residual-in_err-add_types.result c.from_residual-in_err-add_types.ensures.1 in
    rw (p.1, p.2) (passing_tells c.index-packages-index.result c.in_err-add_types.field-0.0 c.loop-index.invariant c.loop-index-test.true c.index-packages-index.is c.in_err-add_types.ensures.refusal)
