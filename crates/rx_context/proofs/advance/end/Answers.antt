use Rattle.std.proofs.Common.{arith, sym, ◌∙◌}
use Rattle.std.proofs.lemmas.Int.{ints}
use Rattle.rx_context.proofs.Ends.{end_at}
use Rattle.rx_context.proofs.advance.end.Goals as goal

pub returns-in-Some-clause-value : goal.returns-in-Some-clause-value
returns-in-Some-clause-value c = omega (arith, ints) ∙ sym (end_at c.args.entries.now c.in-Some.entry.now (sym c.in-Some.ensures.value))
