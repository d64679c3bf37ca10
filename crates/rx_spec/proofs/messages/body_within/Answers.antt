use Rattle.std.proofs.Common.{rules, ◌≡◌, IfErr, subst}
use Rattle.rx_judge.specs.Meaning.{Tells}
use Rattle.rx_elab.specs.Types.{types_of}
use Rattle.rx_spec.specs.Messages.{known_fields, body_shaped}
use Rattle.rx_spec.specs.Shape.{shape_of_code}
use Rattle.rx_spec.proofs.messages.body_within.Goals as goal

pub returns-clause-refusal : goal.returns-clause-refusal
returns-clause-refusal c =
    let types = types_of c.args.types.now in
    let header = c.args.header.now in
    let same : c.in_ok-fields.fields ≡ known_fields c.args.shape.now.held.items c.args.message.now.fields.items = search rules in
    let withs : c.deref-3.result.now ≡ header.withs.items = search rules in
    let with_fields = subst (λ fs. IfErr c.body_shaped.result (λ e. Tells e (body_shaped (record { «package» = header.name.word; withs = c.deref-3.result.now; fields = fs; literals = types.literals }) c.args.name.now c.args.message.now (shape_of_code c.args.shape.now)))) same c.body_shaped.ensures.refusal in
    subst (λ ws. IfErr c.body_shaped.result (λ e. Tells e (body_shaped (record { «package» = header.name.word; withs = ws; fields = known_fields c.args.shape.now.held.items c.args.message.now.fields.items; literals = types.literals }) c.args.name.now c.args.message.now (shape_of_code c.args.shape.now)))) withs with_fields
