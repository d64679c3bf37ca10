use Rattle.std.specs.Option.{option_copied}
use Rattle.rx_elab.specs.Stand.{aspect_stands}
use Rattle.rx_judge.proofs.Each.{Standing}
use Rattle.rx_elab.proofs.stand.aspects_stand.Given as goal

abbrev pub invariant-loop-index : goal.invariant-loop-index
invariant-loop-index l = Standing (aspect_stands l.known (option_copied l.field) l.aspects) l.aspects l.index
