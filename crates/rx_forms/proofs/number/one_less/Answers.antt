use Rattle.std.proofs.Common.{◌≡◌, ap, ◌∙◌, subst, true, false, IfOk, IfErr}
use Rattle.rx_forms.specs.declared.fault.FormFault.TheVariants.{PathLimit}
use Rattle.rx_forms.specs.declared.linear.Linear.{Linear}
use Rattle.rx_forms.specs.Linear.{minus}
use Rattle.rx_forms.specs.Limits.{has_words}
use Rattle.rx_forms.proofs.Reaching.{one_less_is}
use Rattle.rx_forms.proofs.number.one_less.Goals as goal

pub returns-clause-value : goal.returns-clause-value
returns-clause-value c =
    let e = ap (λ (g : Linear). minus c.args.form.now g) c.constant-one.ensures ∙ one_less_is c.args.form.now in
    subst (λ (g : Linear). IfOk c.minus.result (λ f. f ≡ g)) e c.minus.ensures.value

pub returns-clause-words : goal.returns-clause-words
returns-clause-words c =
    let e = ap (λ (g : Linear). minus c.args.form.now g) c.constant-one.ensures ∙ one_less_is c.args.form.now in
    subst (λ (g : Linear). IfOk c.minus.result (λ f. has_words g ≡ true)) e c.minus.ensures.words

pub returns-clause-limit : goal.returns-clause-limit
returns-clause-limit c =
    let e = ap (λ (g : Linear). minus c.args.form.now g) c.constant-one.ensures ∙ one_less_is c.args.form.now in
    subst (λ (g : Linear). IfErr c.minus.result (λ r. r ≡ PathLimit → has_words g ≡ false)) e c.minus.ensures.limit
