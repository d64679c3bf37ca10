use Rattle.std.proofs.Common.{◌≡◌, drop}
use Rattle.rx_forms.specs.Steps.{is_among}
use Rattle.rx_forms.specs.Code.{formed_all}
use Rattle.rx_layout.proofs.fields.is_among.Given as goal

abbrev pub invariant-loop-other : goal.invariant-loop-other
invariant-loop-other l = is_among l.field (formed_all (drop l.other-index l.fields)) ≡ is_among l.field (formed_all l.fields)
