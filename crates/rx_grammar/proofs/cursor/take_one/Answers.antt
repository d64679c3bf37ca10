use Rattle.std.proofs.Common.{◌∙◌, sym}
use Rattle.rx_grammar.specs.Reads.{expected, too_deep}
use Rattle.rx_grammar.proofs.Steps.{one_taken, one_at_end, not_one, one_past_limit, empty_list}
use Rattle.rx_grammar.proofs.cursor.take_one.Goals as goal

pub returns-in_default : goal.returns-in_default
returns-in_default c = rw (empty_list c.args.cursor.rest.now c.in_default.ensures.cases) (expected (one_at_end _ _))

pub returns-then-not-is_of : goal.returns-then-not-is_of
returns-then-not-is_of c = rw c.in-Some.ensures.cases.0 (expected (not_one _ _ _ _ (sym c.is_of.ensures ∙ c.if-not-is_of.true)))

pub returns-then-exceeds : goal.returns-then-exceeds
returns-then-exceeds c = rw c.in-Some.ensures.cases.0 (too_deep (one_past_limit _ _ _ _ (sym c.is_of.ensures ∙ c.if-not-is_of.false) (sym c.exceeds.ensures ∙ c.if-exceeds.true)))

pub returns : goal.returns
returns c = rw (c.in-Some.ensures.cases.0, c.limits_after-limits.ensures) (one_taken _ c.in-Some.token _ _ (sym c.is_of.ensures ∙ c.if-not-is_of.false) (sym c.exceeds.ensures ∙ c.if-exceeds.false))
