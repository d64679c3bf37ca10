use Rattle.std.proofs.Common.{◌∙◌, sym, arith, length}
use Rattle.std.proofs.lemmas.List.{drop_more}
use Rattle.rx_linear.proofs.Stacking.{taken_step}
use Rattle.rx_linear.proofs.stack.RowStack.take_steps.Goals as goal

pub loop-step-preserved : goal.loop-step-preserved
loop-step-preserved c =
    let p = c.step.ensures.pushes in
    let t = taken_step c.loop-step.self.rows c.step.new.self.rows c.args.steps.now c.loop-step.step-index _ c.step.result (drop_more c.args.steps.now c.loop-step.step-index _ c.loop-step-test.true) c.step.ensures.pushes c.if-not-step.false in
    record {
      rows = sym t.0 ∙ c.loop-step.invariant.rows;
      count = omega (arith, t.1, c.loop-step.invariant.count);
      front = t.2 (length c.args.self.now.rows) (omega (arith, c.loop-step.invariant.count)) ∙ c.loop-step.invariant.front;
      variables = c.step.ensures.variables ∙ c.loop-step.invariant.variables;
      limit = c.step.ensures.limit ∙ c.loop-step.invariant.limit;
    }
