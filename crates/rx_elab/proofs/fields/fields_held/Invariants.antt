use Rattle.rx_judge.proofs.Each.{Sofar}
use Rattle.rx_elab.specs.Fields.{field_held}
use Rattle.rx_elab.proofs.fields.fields_held.Given as goal

abbrev pub invariant-loop-field : goal.invariant-loop-field
invariant-loop-field l = Sofar (field_held l.types l.«package» l.withs) l.fields l.field-index l.all.items
