use Rattle.std.proofs.Common.{◌∙◌, sym}
use Rattle.rx_grammar.specs.Reads.{expected, too_deep}
use Rattle.rx_grammar.proofs.Steps.{taken, at_end, not_such, past_limit, empty_list}
use Rattle.rx_grammar.proofs.cursor.take.Goals as goal

pub returns-in_default : goal.returns-in_default
returns-in_default c = rw (empty_list c.args.cursor.rest.now c.in_default.ensures.cases) (expected (at_end _ _))

pub returns-then-not-is_such : goal.returns-then-not-is_such
returns-then-not-is_such c = rw c.in-Some.ensures.cases.0 (expected (not_such _ _ _ _ (sym c.is_such.ensures ∙ c.if-not-is_such.true)))

pub returns-then-exceeds : goal.returns-then-exceeds
returns-then-exceeds c = rw c.in-Some.ensures.cases.0 (too_deep (past_limit _ _ _ _ (sym c.is_such.ensures ∙ c.if-not-is_such.false) (sym c.exceeds.ensures ∙ c.if-exceeds.true)))

pub returns : goal.returns
returns c = rw (c.in-Some.ensures.cases.0, c.limits_after-limits.ensures) (taken _ c.in-Some.token _ _ (sym c.is_such.ensures ∙ c.if-not-is_such.false) (sym c.exceeds.ensures ∙ c.if-exceeds.false))
