use Rattle.std.proofs.Common.{sym, ◌∙◌}
use Rattle.rx_words.proofs.FromClap.{named_none}
use Rattle.rx_words.proofs.line.command_of.Goals as goal

pub returns-else-eq-5 : goal.returns-else-eq-5
returns-else-eq-5 c = named_none c.args.word.now (sym c.eq.ensures ∙ c.if-eq.false) (sym c.eq-else-eq.ensures ∙ c.if-eq-2.false) (sym c.eq-else-eq-2.ensures ∙ c.if-eq-3.false)
    (sym c.eq-else-eq-3.ensures ∙ c.if-eq-4.false) (sym c.eq-else-eq-4.ensures ∙ c.if-eq-5.false)
