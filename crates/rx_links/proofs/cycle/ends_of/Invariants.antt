use Rattle.std.proofs.Common.{◌≡◌, map, take}
use Rattle.rx_links.specs.Cycle.{ends_of}
use Rattle.rx_links.proofs.cycle.ends_of.Given as goal

abbrev pub invariant-loop-way : goal.invariant-loop-way
invariant-loop-way l = l.ends.items ≡ map ends_of (take l.way-index l.ways)
