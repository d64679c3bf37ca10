use Rattle.rx_elab.specs.Stand.{literal_fresh}
use Rattle.rx_elab.proofs.Through.{Going}
use Rattle.rx_elab.proofs.stand.literals_stand.Given as goal

abbrev pub invariant-loop-literal : goal.invariant-loop-literal
invariant-loop-literal l = Going literal_fresh l.initial.known l.literals l.literal-index l.known
