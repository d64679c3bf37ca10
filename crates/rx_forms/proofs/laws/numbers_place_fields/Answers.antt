use Rattle.rx_forms.proofs.Numbered.{numbers_place}
use Rattle.rx_forms.proofs.laws.numbers_place_fields.Goals as goal

pub returns : goal.returns
returns c = numbers_place c.args.message.now.domains c.args.message.now.graph
