use Rattle.rx_program.specs.Stage.{of_declaration}
use Rattle.rx_program.proofs.StageLemmas.{NoneSofar}
use Rattle.rx_program.proofs.stage.of_declarations.Given as goal

abbrev pub invariant-loop-declaration : goal.invariant-loop-declaration
invariant-loop-declaration l = NoneSofar of_declaration l.declarations l.declaration-index
