use Rattle.std.proofs.Common.{drop, ◌↔◌}
use Rattle.rx_types.specs.Environment.{IsAmong, places}
use Rattle.rx_types.proofs.env.is_among.Given as goal

abbrev pub invariant-loop-entry : goal.invariant-loop-entry
invariant-loop-entry l = IsAmong l.field (places l.entries) ↔ IsAmong l.field (places (drop l.entry-index l.entries))
