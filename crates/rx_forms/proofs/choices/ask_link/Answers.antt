use Rattle.rx_graph.specs.Graph.{arrow_of}
use Rattle.rx_forms.specs.Code.{formed_all}
use Rattle.rx_forms.proofs.Chosen.{asked_within, asked_beyond}
use Rattle.rx_forms.proofs.choices.ask_link.Goals as goal

pub returns-in-Ok : goal.returns-in-Ok
returns-in-Ok c =
    let p = c.in-Ok.ensures.fact.goes in
    asked_within (formed_all c.args.fields.now) c.args.next c.condition_form.new.work.next (arrow_of c.args.link.now) p.within p.next

pub returns-in-Err-PathLimit : goal.returns-in-Err-PathLimit
returns-in-Err-PathLimit c =
    asked_beyond (formed_all c.args.fields.now) c.args.next (arrow_of c.args.link.now) (c.in-Err-PathLimit.ensures.limit c.in-Err-PathLimit.field-0-is)
