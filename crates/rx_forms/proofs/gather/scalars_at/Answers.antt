use Rattle.std.proofs.Common.{◌∙◌, arith}
use Rattle.rx_graph.specs.Graph.{arrow_of}
use Rattle.rx_forms.proofs.Looping
use Rattle.rx_forms.proofs.gather.scalars_at.Goals as goal

pub returns-in-At-clause-value : goal.returns-in-At-clause-value
returns-in-At-clause-value c = c.scalars_in.ensures.value ∙ Looping.scalars_one c.args.message.now.domains c.args.message.now.graph (arrow_of c.args.link.now) c.in-At.field c.in-At.is

pub returns-in_default : goal.returns-in_default
returns-in_default c = record {
  value = Looping.scalars_none c.args.message.now.domains c.args.message.now.graph (arrow_of c.args.link.now) c.in_default.not-At;
  one = omega arith;
}
