use Rattle.std.proofs.Common.{rules, ◌≡◌, IfErr, subst}
use Rattle.rx_judge.specs.Meaning.{Tells}
use Rattle.rx_judge.specs.Names.{scope_of}
use Rattle.rx_elab.specs.Firsts.{layings_of}
use Rattle.rx_spec.specs.Messages.{body_laid}
use Rattle.rx_spec.specs.Shape.{shape_of_code}
use Rattle.rx_spec.proofs.messages.body_shaped.Goals as goal

pub returns-clause-refusal : goal.returns-clause-refusal
returns-clause-refusal c =
    let same : c.in_ok-layings.layings.items ≡ layings_of (scope_of c.args.scope.now) c.args.message.now c.args.shape.now.ways.items = search rules in
    let told : IfErr c.body_laid.result (λ e. Tells e (body_laid (scope_of c.args.scope.now) c.in_ok-layings.layings.items c.args.name.now c.args.message.now (shape_of_code c.args.shape.now))) = search rules in
    subst (λ ls. IfErr c.body_laid.result (λ e. Tells e (body_laid (scope_of c.args.scope.now) ls c.args.name.now c.args.message.now (shape_of_code c.args.shape.now)))) same told
