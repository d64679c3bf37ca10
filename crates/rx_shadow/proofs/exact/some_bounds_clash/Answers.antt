use Rattle.rx_shadow.specs.Bounds.{bounds_clash}
use Rattle.rx_shadow.specs.Known.{rows_of}
use Rattle.rx_shadow.proofs.Exactness.{any_below_at, any_below_more}
use Rattle.rx_shadow.proofs.exact.some_bounds_clash.Goals as goal

pub returns-in-Some : goal.returns-in-Some
returns-in-Some c =
    let e = c.in-Some.ensures in
    (any_below_at (λ x. bounds_clash x (rows_of c.args.known.now)) c.args.variables c.loop-variable.variable c.loop-variable-test.true e.0, e.1)

pub loop-variable-preserved : goal.loop-variable-preserved
loop-variable-preserved c = any_below_more (λ x. bounds_clash x (rows_of c.args.known.now)) c.loop-variable.variable c.loop-variable.invariant c.in_default.ensures
