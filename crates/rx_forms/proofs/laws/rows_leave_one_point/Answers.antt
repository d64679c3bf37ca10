use Rattle.rx_forms.proofs.OnPath.{rows_leave_one_point}
use Rattle.rx_forms.proofs.laws.rows_leave_one_point.Goals as goal

pub returns : goal.returns
returns c = rows_leave_one_point c.args.message.now.domains c.args.message.now.graph c.is_known.ensures.elaborated c.links_have_forms.ensures.formable c.links_have_forms.ensures.narrow
