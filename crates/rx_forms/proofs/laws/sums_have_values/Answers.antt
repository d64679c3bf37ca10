use Rattle.rx_forms.proofs.Values.{linear_value}
use Rattle.rx_forms.proofs.laws.sums_have_values.Goals as goal

pub returns : goal.returns
returns c = λ point fields e n x r h s. linear_value point fields e r n x h s
