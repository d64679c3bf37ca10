use Rattle.std.proofs.Common.{◌≡◌, subst, Ok, Err, IfSome}
use Rattle.std.proofs.lemmas.Result.{IfOk-weaker}
use Rattle.rx_graph.specs.Typed.{Typed}
use Rattle.rx_values.specs.Answers.{refusal_of}
use Rattle.rx_values.specs.Reading.{value_of}
use Rattle.rx_encode.proofs.Valued.{have_kinds}
use Rattle.rx_encode.proofs.encoding.encode.Goals as goal

pub valued-requires-clause-sound : goal.valued-requires-clause-sound
valued-requires-clause-sound c = (c.args.message.now.domains, c.args.message.now.graph, (record { stands = c.requires.stands; holds = c.is_sound.ensures.sound.holds }))

pub valued-requires-clause-kinds : goal.valued-requires-clause-kinds
valued-requires-clause-kinds c =
    let read = subst (λ (t : Typed). value_of t.domains t.graph c.args.text.now ≡ Ok c.in-Ok.valuation) c.elaborated.ensures c.in-Ok.ensures.ok in
    have_kinds c.args.message.now.domains c.args.message.now.graph c.args.plan.now c.args.text.now c.in-Ok.valuation c.requires.stands read

pub returns-in-Ok : goal.returns-in-Ok
returns-in-Ok c =
    let read = subst (λ (t : Typed). value_of t.domains t.graph c.args.text.now ≡ Ok c.in-Ok.valuation) c.elaborated.ensures c.in-Ok.ensures.ok in
    IfOk-weaker c.valued.result _ _ (λ e h. h c.args.message.now.domains c.args.message.now.graph c.args.text.now (record { stands = c.requires.stands; holds = c.is_sound.ensures.sound.holds }) read) c.valued.ensures

pub returns-in-Err : goal.returns-in-Err
returns-in-Err c =
    let told = subst (λ (t : Typed). IfSome (refusal_of c.in-Err.fault) (λ r. value_of t.domains t.graph c.args.text.now ≡ Err r)) c.elaborated.ensures c.in-Err.ensures.refused in
    IfOk-weaker c.refused.result _ _ (λ e h. h c.args.message.now.domains c.args.message.now.graph c.args.text.now told) c.refused.ensures
