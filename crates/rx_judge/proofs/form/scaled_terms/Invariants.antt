use Rattle.std.proofs.Common.{◌≡◌, map, take}
use Rattle.rx_judge.specs.Form.{scaled_term}
use Rattle.rx_judge.proofs.form.scaled_terms.Given as goal

abbrev pub invariant-loop-term : goal.invariant-loop-term
invariant-loop-term l = l.scaled.items ≡ map (scaled_term l.factor) (take l.term-index l.terms)
