use Rattle.std.proofs.Common.{sym, ◌∙◌, [], ◌∷◌}
use Rattle.rx_forms.specs.Code.{formed_all}
use Rattle.rx_forms.specs.Steps.{links_on, past}
use Rattle.rx_forms.specs.Choices.{conditions_within}
use Rattle.rx_forms.proofs.Chosen.{is_some, is_none}
use Rattle.rx_forms.proofs.choices.keeps_one.Goals as goal

pub returns-in-None : goal.returns-in-None
returns-in-None c =
    let links = links_on c.args.message.now.domains c.args.message.now.graph (c.args.index ∷ []) in
    sym (is_none (conditions_within (formed_all c.args.fields.now) c.args.next links) (past c.args.next links) (sym c.in-None.is ∙ c.in_ok-after.ensures))

pub returns-in-Some : goal.returns-in-Some
returns-in-Some c =
    let links = links_on c.args.message.now.domains c.args.message.now.graph (c.args.index ∷ []) in
    sym (is_some (conditions_within (formed_all c.args.fields.now) c.args.next links) (past c.args.next links) _ (sym c.in-Some.is ∙ c.in_ok-after.ensures)).0
