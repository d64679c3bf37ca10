use Rattle.std.proofs.Common.{map}
use Rattle.rx_judge.specs.Names.{scope_of}
use Rattle.rx_judge.proofs.Each.{Sofar}
use Rattle.rx_elab.specs.Parts.{field_parts, field_parts_of}
use Rattle.rx_elab.proofs.parts.fields_parts.Given as goal

abbrev pub invariant-loop-field : goal.invariant-loop-field
invariant-loop-field l = Sofar (field_parts (scope_of l.scope) l.layings) l.fields l.field-index (map field_parts_of l.all.items)
