use Rattle.rx_elab.specs.Stand.{with_stands}
use Rattle.rx_judge.proofs.Each.{Standing}
use Rattle.rx_elab.proofs.stand.withs_stand.Given as goal

abbrev pub invariant-loop-with : goal.invariant-loop-with
invariant-loop-with l = Standing (λ k w. with_stands l.asked w) l.withs l.with-index
