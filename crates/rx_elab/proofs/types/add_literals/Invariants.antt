use Rattle.std.proofs.Common.{◌≡◌, drop}
use Rattle.rx_elab.specs.Types.{with_literals}
use Rattle.rx_elab.proofs.types.add_literals.Given as goal

abbrev pub invariant-loop-literal : goal.invariant-loop-literal
invariant-loop-literal l = with_literals l.initial.table l.prefix l.id l.literals ≡ with_literals l.table l.prefix l.id (drop l.literal-index l.literals)
