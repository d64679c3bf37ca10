use Rattle.std.proofs.Common.{sym}
use Rattle.rx_draft.proofs.Ends.{node_at}
use Rattle.rx_draft.proofs.stepping.end_of_path.Goals as goal

pub returns-in-Some : goal.returns-in-Some
returns-in-Some c = sym (node_at c.args.entries.now c.in-Some.entry.now (sym c.in-Some.ensures.value))
