use Rattle.rx_forms.proofs.OnPath.{forms_have_values}
use Rattle.rx_forms.proofs.laws.forms_have_values.Goals as goal

pub returns : goal.returns
returns c = forms_have_values c.args.message.now.domains c.args.message.now.graph c.is_known.ensures.elaborated c.links_have_forms.ensures.formable c.links_have_forms.ensures.narrow
