use Rattle.std.proofs.Common.{◌≡◌, drop}
use Rattle.rx_judge.specs.Form.{coefficient_in}
use Rattle.rx_judge.proofs.form.coefficient_in.Given as goal

abbrev pub invariant-loop-term : goal.invariant-loop-term
invariant-loop-term l = coefficient_in l.terms l.unknown ≡ coefficient_in (drop l.term-index l.terms) l.unknown
