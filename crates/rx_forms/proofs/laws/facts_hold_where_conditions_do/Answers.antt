use Rattle.rx_forms.proofs.Conditions.{condition_meets}
use Rattle.rx_forms.proofs.laws.facts_hold_where_conditions_do.Goals as goal

pub returns : goal.returns
returns c = λ limit point fields e n wanted x r numbers h s. condition_meets limit point fields e r numbers n wanted x h s
