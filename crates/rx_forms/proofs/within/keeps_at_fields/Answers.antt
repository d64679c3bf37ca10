use Rattle.std.proofs.Common.{ap, length, arith}
use Rattle.rx_forms.specs.PathLimit.{keeps_limit_at}
use Rattle.rx_forms.proofs.Asking.{field_goes_on, field_stops}
use Rattle.rx_forms.proofs.within.keeps_at_fields.Goals as goal

pub returns-then-not-kept : goal.returns-then-not-kept
returns-then-not-kept c =
    let p = keeps_limit_at c.args.message.now.domains c.args.message.now.graph in
    field_stops p c.args.message.now.graph.fields c.loop-field.field _ c.loop-field.invariant c.in_ok-kept.kept (omega (arith, ap length c.fields-field-end.ensures.fields, c.loop-field-test.true)) c.in_ok-kept.ensures c.if-not-kept.true

pub loop-field-preserved : goal.loop-field-preserved
loop-field-preserved c =
    let p = keeps_limit_at c.args.message.now.domains c.args.message.now.graph in
    field_goes_on p c.args.message.now.graph.fields c.loop-field.field _ c.loop-field.invariant c.in_ok-kept.kept (omega (arith, ap length c.fields-field-end.ensures.fields, c.loop-field-test.true)) c.in_ok-kept.ensures c.if-not-kept.false
