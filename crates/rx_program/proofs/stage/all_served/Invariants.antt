use Rattle.rx_program.proofs.StageLemmas.{NoForms}
use Rattle.rx_program.proofs.stage.all_served.Given as goal

abbrev pub invariant-loop-package : goal.invariant-loop-package
invariant-loop-package l = NoForms l.packages l.package
