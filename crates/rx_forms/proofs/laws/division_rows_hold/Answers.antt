use Rattle.rx_forms.proofs.OnPath.{division_rows_hold}
use Rattle.rx_forms.proofs.laws.division_rows_hold.Goals as goal

pub returns : goal.returns
returns c = division_rows_hold c.args.message.now.domains c.args.message.now.graph c.is_known.ensures.elaborated c.links_have_forms.ensures.formable c.links_have_forms.ensures.narrow
