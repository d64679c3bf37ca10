-- The message is answered where it keeps the limit, and refused where it passes it.
use Rattle.rx_graph.specs.Graph.{graph_of}
use Rattle.rx_elab.specs.Types.{types_of}
use Rattle.rx_spec.proofs.Limits.{limit_keeps, limit_passes}
use Rattle.rx_spec.proofs.limit.within_limit.Goals as goal

pub returns-then-kept-clause-meaning : goal.returns-then-kept-clause-meaning
returns-then-kept-clause-meaning c = limit_keeps (types_of c.args.types.now) c.args.name.now (graph_of c.args.message) c.in_ok-kept.kept c.in_ok-kept.ensures c.if-kept.true

pub returns-clause-refusal : goal.returns-clause-refusal
returns-clause-refusal c = limit_passes (types_of c.args.types.now) c.args.name.now (graph_of c.args.message) c.in_ok-kept.kept c.in_ok-refused_at.field-0 c.in_ok-kept.ensures c.if-kept.false c.in_ok-refused_at.ensures
