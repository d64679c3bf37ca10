use Rattle.std.proofs.Common.{arith}
use Rattle.rx_graph.specs.Graph.{domains_of, graph_of}
use Rattle.rx_encode.proofs.Valued.{have_kinds}
use Rattle.message_trials.proofs.writing.written_of.Goals as goal

pub from_json-requires : goal.from_json-requires
from_json-requires c = omega (arith, c.requires.message.elaborated.few_fields)

pub written_by-requires-clause-sound : goal.written_by-requires-clause-sound
written_by-requires-clause-sound c = (domains_of c.args.spec.now, graph_of c.args.message.now, c.requires.stands)

pub written_by-requires-clause-kinds : goal.written_by-requires-clause-kinds
written_by-requires-clause-kinds c = have_kinds (domains_of c.args.spec.now) (graph_of c.args.message.now) c.args.plan.now c.args.json.now c.in-Ok.valuation c.requires.stands.stands c.in-Ok.ensures.ok

pub written_by-requires-clause-short : goal.written_by-requires-clause-short
written_by-requires-clause-short c =
    let s = c.requires.stands in
    (domains_of c.args.spec.now, graph_of c.args.message.now, s.stands, (c.is_within.ensures (domains_of c.args.spec.now) (graph_of c.args.message.now) s.stands).0 c.if-is_within.true)
