use Rattle.std.proofs.Common.{◌≡◌, drop}
use Rattle.rx_links.specs.Positions.{positions, positions_from}
use Rattle.rx_links.proofs.names.positions.Given as goal

abbrev pub invariant-loop-index : goal.invariant-loop-index
invariant-loop-index l = positions l.fields ≡ positions_from l.index l.table (drop l.index l.fields)
