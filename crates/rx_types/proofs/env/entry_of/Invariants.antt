use Rattle.std.proofs.Common.{◌≡◌, drop}
use Rattle.rx_types.specs.Environment.{place_of, places}
use Rattle.rx_types.proofs.env.entry_of.Given as goal

abbrev pub invariant-loop-entry : goal.invariant-loop-entry
invariant-loop-entry l = place_of l.field (places l.entries) ≡ place_of l.field (places (drop l.entry-index l.entries))
