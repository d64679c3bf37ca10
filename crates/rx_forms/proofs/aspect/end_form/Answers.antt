use Rattle.std.proofs.Common.{◌≡◌, subst, sym, IfOk}
use Rattle.rx_forms.specs.declared.linear.Linear.{Linear}
use Rattle.rx_forms.proofs.Aspects.{end_of_last}
use Rattle.rx_forms.proofs.aspect.end_form.Goals as goal

pub returns-in-Some : goal.returns-in-Some
returns-in-Some c =
    let e = end_of_last c.args.fields.now c.in-Some.last.now (sym c.in-Some.ensures.value) in
    subst (λ (g : Linear). IfOk c.copy.result (λ f. f ≡ g)) (sym e) c.copy.ensures
