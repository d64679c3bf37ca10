use Rattle.rx_forms.proofs.Whole.{partial_makes}
use Rattle.rx_forms.proofs.laws.partial_paths_make_rows.Goals as goal

pub returns : goal.returns
returns c = partial_makes c.args.message.now.domains c.args.message.now.graph c.is_known.ensures.elaborated c.links_have_forms.ensures.formable c.links_have_forms.ensures.narrow
