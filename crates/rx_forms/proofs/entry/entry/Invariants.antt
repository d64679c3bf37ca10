use Rattle.std.proofs.Common.{◌≡◌, drop}
use Rattle.rx_forms.specs.Normal.{formed_of}
use Rattle.rx_forms.specs.Code.{formed_all}
use Rattle.rx_forms.proofs.entry.entry.Given as goal

abbrev pub invariant-loop-form : goal.invariant-loop-form
invariant-loop-form l = formed_of l.field (formed_all l.fields) ≡ formed_of l.field (formed_all (drop l.form-index l.fields))
