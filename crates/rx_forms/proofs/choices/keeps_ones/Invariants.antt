use Rattle.std.proofs.Common.{◌≡◌, [], ◌∷◌, drop}
use Rattle.std.specs.List.{list_all}
use Rattle.rx_forms.specs.Code.{formed_all}
use Rattle.rx_forms.specs.Steps.{links_on}
use Rattle.rx_forms.specs.Choices.{conditions_within}
use Rattle.rx_forms.proofs.choices.keeps_ones.Given as goal

-- the links that are left decide
abbrev pub invariant-loop-index : goal.invariant-loop-index
invariant-loop-index l = list_all (λ i. conditions_within (formed_all l.fields) l.next (links_on l.message.domains l.message.graph (i ∷ []))) l.numbers ≡ list_all (λ i. conditions_within (formed_all l.fields) l.next (links_on l.message.domains l.message.graph (i ∷ []))) (drop l.index-index l.numbers)
