use Rattle.rx_forms.proofs.Quotients.{solves_number}
use Rattle.rx_forms.proofs.Rows.{solves_condition}
use Rattle.rx_forms.proofs.laws.rows_leave_quotients_no_choice.Goals as goal

pub returns : goal.returns
returns c = record {
  numbers = λ limit point fields e n x r h s. solves_number limit point fields e r n x h s;
  conditions = λ limit point fields e n x r h s. solves_condition limit point fields e r n x h s;
}
