use Rattle.std.proofs.Common.{◌≡◌, drop}
use Rattle.rx_elab.specs.Stand.{with_aspects}
use Rattle.rx_elab.proofs.stand.add_aspects.Given as goal

abbrev pub invariant-loop-aspect : goal.invariant-loop-aspect
invariant-loop-aspect l = with_aspects l.initial.known l.field l.aspects ≡ with_aspects l.known l.field (drop l.aspect-index l.aspects)
