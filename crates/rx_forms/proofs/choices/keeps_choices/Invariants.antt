use Rattle.std.proofs.Common.{◌≡◌, drop}
use Rattle.std.specs.List.{list_all}
use Rattle.rx_forms.specs.Code.{formed_all}
use Rattle.rx_forms.specs.Steps.{links_on}
use Rattle.rx_forms.specs.PathLimit.{ones_and_pairs}
use Rattle.rx_forms.specs.Choices.{conditions_within}
use Rattle.rx_forms.proofs.choices.keeps_choices.Given as goal

-- the choices of the links that are left decide
abbrev pub invariant-loop-place : goal.invariant-loop-place
invariant-loop-place l = list_all (λ out. conditions_within (formed_all l.fields) l.next (links_on l.message.domains l.message.graph out)) (ones_and_pairs l.numbers) ≡ list_all (λ out. conditions_within (formed_all l.fields) l.next (links_on l.message.domains l.message.graph out)) (ones_and_pairs (drop l.place l.numbers))
