use Rattle.std.proofs.Common.{◌≡◌, ◌++◌, map, drop}
use Rattle.rx_forms.specs.Linear.{above}
use Rattle.rx_forms.specs.Code.{formed_all}
use Rattle.rx_layout.proofs.formula.ends_before.Given as goal

abbrev pub invariant-loop-field : goal.invariant-loop-field
invariant-loop-field l = l.forms ++ map (λ f. above l.place f.end) (formed_all (drop l.field-index l.fields)) ≡ map (λ f. above l.place f.end) (formed_all l.fields)
