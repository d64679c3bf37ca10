use Rattle.std.proofs.Common.{◌≡◌, subst, false, IfErr}
use Rattle.rx_forms.specs.declared.fault.FormFault.TheVariants.{PathLimit}
use Rattle.rx_forms.specs.declared.linear.Linear.{Linear}
use Rattle.rx_forms.specs.Linear.{minus}
use Rattle.rx_forms.specs.Normal.{bits}
use Rattle.rx_forms.specs.Limits.{has_words}
use Rattle.rx_forms.proofs.Lows.{not_low}
use Rattle.rx_forms.proofs.Reaching.{fails_too}
use Rattle.rx_forms.proofs.aspect.rest.Goals as goal

pub returns-clause-limit : goal.returns-clause-limit
returns-clause-limit c =
    fails_too c.minus.result _ _ (λ h. not_low (minus bits c.args.first.now) h) (subst (λ (g : Linear). IfErr c.minus.result (λ e. e ≡ PathLimit → has_words (minus g c.args.first.now) ≡ false)) c.in_ok-length.ensures c.minus.ensures.limit)
