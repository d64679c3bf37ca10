use Rattle.rx_elab.specs.Stand.{enum_aspect_stands}
use Rattle.rx_judge.proofs.Each.{Standing}
use Rattle.rx_elab.proofs.stand.enum_aspects_stand.Given as goal

abbrev pub invariant-loop-index : goal.invariant-loop-index
invariant-loop-index l = Standing (enum_aspect_stands l.aspects) l.aspects l.index
