use Rattle.std.proofs.Common.{◌≡◌, drop}
use Rattle.rx_spec.specs.Messages.{known_fields, known_from}
use Rattle.rx_spec.proofs.fields.known_fields.Given as goal

abbrev pub invariant-loop-index : goal.invariant-loop-index
invariant-loop-index l = known_fields l.held l.fields ≡ known_from l.index l.table l.rest (drop l.index l.fields)
