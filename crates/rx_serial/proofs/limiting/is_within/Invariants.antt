use Rattle.std.proofs.Common.{◌≡◌, ◌+◌, ◌≤◌, List, drop}
use Rattle.rx_types.specs.Domain.{Domain}
use Rattle.rx_graph.specs.Fits.{own_bits}
use Rattle.rx_graph.specs.Graph.{Graph}
use Rattle.rx_context.specs.Plan.{StandsFor}
use Rattle.rx_values.specs.Valuation.{assigned}
use Rattle.rx_serial.proofs.limiting.is_within.Given as goal

-- the bits so far are not too many, and with those of the entries that are left they are those of all
abbrev pub invariant-loop-entry : goal.invariant-loop-entry
invariant-loop-entry l =
    (l.bits ≤ l.most) × ((domains : List Domain) (m : Graph) → StandsFor domains m l.plan → l.bits + own_bits domains m (assigned (drop l.entry-index l.entry-items)) ≡ own_bits domains m (assigned l.entry-items))
