use Rattle.std.proofs.Common.{◌≡◌, ◌++◌, drop, map}
use Rattle.rx_layout.specs.Laid.{placed}
use Rattle.rx_layout.proofs.fields.add_places.Given as goal

abbrev pub invariant-loop-field : goal.invariant-loop-field
invariant-loop-field l = l.forms ++ map (placed) (drop l.field-index l.fields) ≡ l.fn.forms ++ map (placed) l.fields
