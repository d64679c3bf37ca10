use Rattle.rx_judge.proofs.Each.{Sofar}
use Rattle.rx_spec.specs.Messages.{field_meant}
use Rattle.rx_spec.proofs.fields.fields_meant.Given as goal

abbrev pub invariant-loop-index : goal.invariant-loop-index
invariant-loop-index l = Sofar (field_meant l.held l.layings) l.fields l.index l.all.items
