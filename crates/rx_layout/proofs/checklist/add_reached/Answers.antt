use Rattle.rx_layout.proofs.Checking.{reached_added, reached_done}
use Rattle.rx_layout.proofs.checklist.add_reached.Goals as goal

pub loop-field-preserved : goal.loop-field-preserved
loop-field-preserved c = λ domains m. reached_added domains m c.args.fields.now c.loop-field.field c.loop-field.goals.items _ _ c.loop-field-test.true c.in_ok-push.ensures.items (c.loop-field.invariant domains m)

pub returns : goal.returns
returns c = λ domains m. reached_done domains m c.args.fields.now c.loop-field.field c.loop-field.goals.items _ c.loop-field-test.false (c.loop-field.invariant domains m)
