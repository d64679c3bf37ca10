use Rattle.std.proofs.Common.{sym, subst}
use Rattle.rx_context.specs.Plan.{StandsFor}
use Rattle.rx_context.proofs.plan.Plan.next.Goals as goal

pub returns : goal.returns
returns c = λ domains m s. c.advance.ensures domains m (subst (StandsFor domains m) (sym c.kept.ensures.value) s)
