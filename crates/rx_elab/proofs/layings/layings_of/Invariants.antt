use Rattle.std.proofs.Common.{◌≡◌, map, take}
use Rattle.rx_judge.specs.Names.{scope_of}
use Rattle.rx_elab.specs.Firsts.{laying_of}
use Rattle.rx_elab.proofs.layings.layings_of.Given as goal

abbrev pub invariant-loop-way : goal.invariant-loop-way
invariant-loop-way l = l.layings.items ≡ map (laying_of (scope_of l.scope) l.message) (take l.way-index l.ways)
