use Rattle.std.proofs.lemmas.Result.{err_from_is_err_and}
use Rattle.rx_forms.specs.Linear.{minus}
use Rattle.rx_forms.proofs.Lows.{not_low}
use Rattle.rx_forms.proofs.condition.low_difference.Goals as goal

pub returns-in_err-difference-clause-limit : goal.returns-in_err-difference-clause-limit
returns-in_err-difference-clause-limit c =
    let p = err_from_is_err_and c.from_residual.result c.from_residual.ensures.1 in
    rw (p.1, p.2) (λ e. not_low (minus c.args.left.now c.args.right.now) (c.in_err-difference.ensures.limit e))
