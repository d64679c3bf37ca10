use Rattle.rx_judge.specs.Names.{scope_of}
use Rattle.rx_elab.specs.Parts.{with_aspect, parts_of}
use Rattle.rx_elab.proofs.Through.{Going}
use Rattle.rx_elab.proofs.parts.add_aspects.Given as goal

abbrev pub invariant-loop-aspect : goal.invariant-loop-aspect
invariant-loop-aspect l = Going (with_aspect (scope_of l.scope) l.layings l.owner l.target) (parts_of l.initial.parts) l.aspects l.aspect-index (parts_of l.parts)
