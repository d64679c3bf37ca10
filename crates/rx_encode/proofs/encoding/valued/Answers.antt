use Rattle.rx_graph.specs.Fits.{length_of}
use Rattle.rx_encode.proofs.Walked.{beyond}
use Rattle.rx_encode.proofs.encoding.valued.Goals as goal

pub written-requires-clause-sound : goal.written-requires-clause-sound
written-requires-clause-sound c = c.requires.sound

pub written-requires-clause-kinds : goal.written-requires-clause-kinds
written-requires-clause-kinds c = c.requires.kinds

pub written-requires-clause-short : goal.written-requires-clause-short
written-requires-clause-short c =
    let s = c.requires.sound in
    (s.0, s.1, s.2.stands, (c.is_within.ensures s.0 s.1 s.2.stands).0 c.if-is_within.true)

pub returns-then-is_within : goal.returns-then-is_within
returns-then-is_within c = c.written.ensures

pub returns-else-is_within : goal.returns-else-is_within
returns-else-is_within c =
    λ domains m text stands value.
    (c.args.valuation.now, value, beyond c.is_within.result (length_of domains m c.args.valuation.now) 16777215 (c.is_within.ensures domains m stands.stands) c.if-is_within.false)
