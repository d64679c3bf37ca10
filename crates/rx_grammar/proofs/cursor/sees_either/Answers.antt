use Rattle.rx_grammar.proofs.Ahead.{first_ahead, either_ahead}
use Rattle.rx_grammar.proofs.cursor.sees_either.Goals as goal

pub returns-then-first : goal.returns-then-first
returns-then-first c = first_ahead _ _ _ (rw c.if-first.true at c.sees-first.ensures)

pub returns : goal.returns
returns c = either_ahead _ _ _ _ (rw c.if-first.false at c.sees-first.ensures) c.sees-second.ensures
