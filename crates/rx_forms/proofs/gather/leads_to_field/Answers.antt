use Rattle.std.proofs.Common.{sym}
use Rattle.rx_graph.specs.Graph.{arrow_of}
use Rattle.rx_forms.proofs.Looping
use Rattle.rx_forms.proofs.gather.leads_to_field.Goals as goal

pub returns-in_default : goal.returns-in_default
returns-in_default c = sym (Looping.is_no_field (arrow_of c.args.link.now) c.in_default.not-At)
