use Rattle.rx_judge.proofs.Measured.{measured_if}
use Rattle.rx_judge.proofs.scalar.definition.Goals as goal

pub returns-clause-measured : goal.returns-clause-measured
returns-clause-measured c = measured_if c.args.name.now c.args.def.now c.in_ok-scalar.scalar c.in_ok-scalar.ensures.meaning
