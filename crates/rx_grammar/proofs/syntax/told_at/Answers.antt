use Rattle.std.proofs.Common.{sym, inr}
use Rattle.rx_grammar.specs.Syntax.{expected, not_supported}
use Rattle.rx_grammar.proofs.syntax.told_at.Goals as goal

pub returns-in-Ok-None : goal.returns-in-Ok-None
returns-in-Ok-None c = inr (rw (c.place_of.ensures, ← c.split_at.ensures.front, ← c.split_at.ensures.back) (expected (sym (rw c.in-Ok-None.field-0-is at c.in-Ok-None.ensures))))

pub returns-in-Ok-Some : goal.returns-in-Ok-Some
returns-in-Ok-Some c = inr (rw (c.place_of-in-Ok-Some.ensures, ← c.split_at.ensures.front, ← c.split_at.ensures.back) (not_supported (sym (rw c.in-Ok-Some.field-0-is at c.in-Ok-Some.ensures))))
