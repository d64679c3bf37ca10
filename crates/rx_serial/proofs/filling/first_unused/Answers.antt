use Rattle.rx_serial.proofs.Left.{first_unused}
use Rattle.rx_serial.proofs.filling.first_unused.Goals as goal

pub returns-then-not-present-clause-some : goal.returns-then-not-present-clause-some
returns-then-not-present-clause-some c =
    first_unused c.args.valuation.now c.args.draft.now.fields c.entries-entry-items.result.now c.loop-entry.entry-index c.entry-item.result c.entries-entry-items.ensures.values c.entries-entry-items.ensures.ascending c.loop-entry-test.true c.entry-item.is c.loop-entry.invariant c.present.result c.present.ensures c.if-not-present.true
