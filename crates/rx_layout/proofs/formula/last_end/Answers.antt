use Rattle.std.proofs.Common.{sym, ◌∙◌}
use Rattle.rx_forms.proofs.Aspects.{end_of_last}
use Rattle.rx_layout.proofs.formula.last_end.Goals as goal

pub returns-in_ok-copy-in-Some : goal.returns-in_ok-copy-in-Some
returns-in_ok-copy-in-Some c = c.in_ok-copy-in-Some.ensures ∙ sym (end_of_last c.args.fields.now c.in-Some.last.now (sym c.in-Some.ensures.value))
