use Rattle.rx_forms.proofs.Quotients.{rows_of_number}
use Rattle.rx_forms.proofs.Rows.{rows_of_condition}
use Rattle.rx_forms.proofs.laws.rows_hold_of_quotients.Goals as goal

pub returns : goal.returns
returns c = record {
  numbers = λ limit point fields e n x r w h narrow s. rows_of_number limit point fields e r w n x h narrow s;
  conditions = λ limit point fields e n x r w h narrow s. rows_of_condition limit point fields e r w n x h narrow s;
}
