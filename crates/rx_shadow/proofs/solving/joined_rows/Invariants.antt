use Rattle.rx_shadow.proofs.Initial.{Joined}
use Rattle.rx_shadow.proofs.solving.joined_rows.Given as goal

abbrev pub invariant-loop-row : goal.invariant-loop-row
invariant-loop-row l = Joined l.variables l.rows l.row-index l.known.items
