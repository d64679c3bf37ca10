use Rattle.rx_elab.specs.Stand.{field_stands}
use Rattle.rx_elab.proofs.Through.{Going}
use Rattle.rx_elab.proofs.stand.fields_stand.Given as goal

abbrev pub invariant-loop-field : goal.invariant-loop-field
invariant-loop-field l = Going field_stands l.initial.seen l.fields l.field-index l.seen
