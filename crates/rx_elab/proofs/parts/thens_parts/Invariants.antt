use Rattle.std.proofs.Common.{map}
use Rattle.rx_judge.specs.Names.{scope_of}
use Rattle.rx_judge.proofs.Each.{Sofar}
use Rattle.rx_elab.specs.Parts.{then_parts, parts_of}
use Rattle.rx_elab.proofs.parts.thens_parts.Given as goal

abbrev pub invariant-loop-then : goal.invariant-loop-then
invariant-loop-then l = Sofar (then_parts (scope_of l.scope) l.layings l.owner) l.thens l.then-index (map parts_of l.all.items)
