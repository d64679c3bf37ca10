use Rattle.std.proofs.lemmas.Result.{err_from_is_err_and}
use Rattle.rx_forms.specs.Linear.{plus}
use Rattle.rx_forms.proofs.Lows.{not_low}
use Rattle.rx_forms.proofs.aspect.low_sum.Goals as goal

pub returns-in_err-sum-clause-limit : goal.returns-in_err-sum-clause-limit
returns-in_err-sum-clause-limit c =
    let p = err_from_is_err_and c.from_residual.result c.from_residual.ensures.1 in
    rw (p.1, p.2) (λ e. not_low (plus c.args.left.now c.args.right.now) (c.in_err-sum.ensures.limit e))
