use Rattle.std.proofs.Common.{◌≡◌, subst, pos, IfOk}
use Rattle.rx_forms.specs.declared.linear.Form.{Form}
use Rattle.rx_forms.proofs.Reaching.{is_number}
use Rattle.rx_forms.proofs.condition.is_false.Goals as goal

pub returns : goal.returns
returns c =
    let e = is_number c.args.variable (pos 0) c.in_ok-least.least c.in_ok-most.most c.in_ok-least.ensures c.in_ok-most.ensures in
    subst (λ (h : Form). IfOk c.pair.result (λ f. f ≡ h)) e c.pair.ensures
