use Rattle.std.proofs.Common.{◌≡◌, drop}
use Rattle.std.specs.List.{list_all}
use Rattle.rx_forms.specs.PathLimit.{keeps_limit_at, fields_from}
use Rattle.rx_forms.proofs.within.keeps_at_fields.Given as goal

-- the fields that are left decide
abbrev pub invariant-loop-field : goal.invariant-loop-field
invariant-loop-field l = list_all (keeps_limit_at l.message.domains l.message.graph) (fields_from 0 l.message.graph.fields) ≡ list_all (keeps_limit_at l.message.domains l.message.graph) (fields_from l.field (drop l.field l.message.graph.fields))
