use Rattle.std.proofs.Common.{arith, sym, ◌∙◌}
use Rattle.std.proofs.lemmas.Int.{ints}
use Rattle.rx_context.proofs.Ends.{end_at}
use Rattle.message_trials.proofs.followed.end.Goals as goal

pub returns-in-Some : goal.returns-in-Some
returns-in-Some c = omega (arith, ints) ∙ sym (end_at c.args.entries.now c.in-Some.entry.now (sym c.in-Some.ensures.value))
