use Rattle.std.proofs.lemmas.Result.{err_from_is_err_and}
use Rattle.rx_judge.proofs.Each.{more, pushed, refuses}
use Rattle.rx_elab.specs.Parts.{field_parts_of}
use Rattle.rx_elab.proofs.parts.fields_parts.Goals as goal

pub loop-field-preserved : goal.loop-field-preserved
loop-field-preserved c =
    let h = more c.field-item.result (field_parts_of c.in_ok-parts.parts) c.loop-field.invariant c.loop-field-test.true c.field-item.is c.in_ok-parts.ensures.meaning in
    pushed field_parts_of c.loop-field.all.items c.push.new.self.items c.in_ok-parts.parts h c.in_ok-push.ensures.items

pub returns-in_err-parts-clause-refusal : goal.returns-in_err-parts-clause-refusal
returns-in_err-parts-clause-refusal c =
    let p = err_from_is_err_and c.from_residual.result c.from_residual.ensures.1 in
    rw (p.1, p.2) (refuses c.field-item.result c.in_err-parts.field-0.0 c.loop-field.invariant c.loop-field-test.true c.field-item.is c.in_err-parts.ensures.refusal)
