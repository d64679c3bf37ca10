use Rattle.std.proofs.Common.{ap, ◌∙◌}
use Rattle.rx_forms.specs.Code.{formed_all}
use Rattle.rx_forms.proofs.Building.{formed_push}
use Rattle.rx_forms.proofs.builder.push_field.Goals as goal

pub returns : goal.returns
returns c = ap formed_all c.in_ok-push.ensures.items ∙ formed_push c.args.fields.now.items c.args.field
