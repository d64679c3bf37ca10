use Rattle.rx_elab.specs.Types.{types_of, built_in_types}
use Rattle.rx_spec.specs.Elaboration.{package_types_in}
use Rattle.rx_spec.proofs.Passing.{Passing}
use Rattle.rx_spec.proofs.elaboration.types_of.Given as goal

abbrev pub invariant-loop-index : goal.invariant-loop-index
invariant-loop-index l = Passing package_types_in built_in_types l.packages l.index (types_of l.types)
