use Rattle.rx_judge.proofs.Each.{Standing}
use Rattle.rx_spec.specs.Elaboration.{package_stands_in}
use Rattle.rx_spec.proofs.elaboration.names_stand.Given as goal

abbrev pub invariant-loop-index : goal.invariant-loop-index
invariant-loop-index l = Standing (package_stands_in l.asked) l.packages l.index
