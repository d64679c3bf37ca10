use Rattle.rx_forms.proofs.Whole.{rows_make}
use Rattle.rx_forms.proofs.laws.rows_make_paths_partial.Goals as goal

pub returns : goal.returns
returns c = rows_make c.args.message.now.domains c.args.message.now.graph c.is_known.ensures.elaborated c.links_have_forms.ensures.formable c.links_have_forms.ensures.narrow
