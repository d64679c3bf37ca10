use Rattle.std.proofs.Common.{◌≡◌, ◌++◌, drop, map}
use Rattle.rx_layout.specs.Laid.{typed_field}
use Rattle.rx_layout.proofs.fields.add_types.Given as goal

abbrev pub invariant-loop-field : goal.invariant-loop-field
invariant-loop-field l = l.forms ++ map (typed_field l.message.domains l.message.graph) (drop l.field-index l.fields) ≡ l.fn.forms ++ map (typed_field l.message.domains l.message.graph) l.fields
