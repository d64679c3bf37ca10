use Rattle.std.proofs.Common.{arith, sym, ap, ◌∙◌, length}
use Rattle.rx_types.proofs.Entries.{length-places}
use Rattle.rx_types.specs.Environment.{placed}
use Rattle.message_trials.proofs.Growing.{clash, new_is_distinct}
use Rattle.message_trials.proofs.followed.with.Goals as goal

pub push-requires-clause-room : goal.push-requires-clause-room
push-requires-clause-room c =
    omega (arith, length-places c.entries.result.now, ap (λ ps. length ps) c.entries.ensures.entries, c.if-entries-ge144.false)

pub push-requires-clause-new : goal.push-requires-clause-new
push-requires-clause-new c =
    new_is_distinct c.args.env.fields (placed c.args.entry) c.entries.ensures.distinct (λ h. clash (sym (c.has.ensures.1 h) ∙ c.if-has.false))
