use Rattle.std.proofs.Common.{sym}
use Rattle.rx_graph.specs.Graph.{arrow_of}
use Rattle.rx_checks.proofs.Numbered.{one_scalar, no_scalar}
use Rattle.rx_checks.proofs.counting.scalars_under.Goals as goal

pub returns-in-Some-clause-value : goal.returns-in-Some-clause-value
returns-in-Some-clause-value c =
    one_scalar c.args.message.now.domains c.args.message.now.graph c.args.index (arrow_of c.in-Some.link.now) c.target_field.result c.scalars_in.result
    (sym c.in-Some.ensures) c.target_field.ensures c.scalars_in.ensures.value

pub returns-in-None-clause-value : goal.returns-in-None-clause-value
returns-in-None-clause-value c = no_scalar c.args.message.now.domains c.args.message.now.graph c.args.index (sym c.in-None.ensures)
