use Rattle.std.proofs.Common.{◌≡◌, drop}
use Rattle.std.specs.Option.{option_copied}
use Rattle.rx_elab.specs.Firsts.{first_in, first_from}
use Rattle.rx_elab.proofs.layings.first_in.Given as goal

abbrev pub invariant-loop-aspect : goal.invariant-loop-aspect
invariant-loop-aspect l = first_in l.aspects ≡ first_from (option_copied l.first) (drop l.aspect-index l.aspects)
