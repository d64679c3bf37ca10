use Rattle.rx_elab.specs.Stand.{then_stands}
use Rattle.rx_elab.proofs.Through.{Going}
use Rattle.rx_elab.proofs.stand.thens_stand.Given as goal

abbrev pub invariant-loop-then : goal.invariant-loop-then
invariant-loop-then l = Going then_stands l.initial.seen l.thens l.then-index l.seen
