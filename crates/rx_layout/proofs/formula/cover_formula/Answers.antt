use Rattle.std.proofs.Common.{ap}
use Rattle.rx_forms.specs.declared.linear.Form.{All}
use Rattle.rx_layout.proofs.Behind.{cover_many}
use Rattle.rx_layout.proofs.formula.cover_formula.Goals as goal

pub returns-in_ok-push-in_default : goal.returns-in_ok-push-in_default
returns-in_ok-push-in_default c =
    cover_many c.args.fields.now c.args.first.now c.in_ok-branches-in_default.branches c.push.new.self (All c.in_ok-before-in_default.before) c.in_default.len_at_least
    c.in_ok-branches-in_default.ensures (ap All c.in_ok-before-in_default.ensures) c.in_ok-push-in_default.ensures.ok
