use Rattle.std.proofs.Common.{ℕ, List, IfNone, subst}
use Rattle.rx_types.specs.Domain.{Domain}
use Rattle.rx_graph.specs.Graph.{Graph}
use Rattle.rx_draft.specs.Drafts.{StandsForSound, environment_of}
use Rattle.rx_draft.specs.Puts.{IsNext}
use Rattle.rx_draft.proofs.draft.Draft.next.Goals as goal

pub returns-clause-none : goal.returns-clause-none
returns-clause-none c =
    subst (λ d. IfNone c.next_field.result ((domains : List Domain) (m : Graph) (f : ℕ) → StandsForSound domains m d.plan → IsNext m (environment_of d) f → ⊥)) c.self.view_is c.next_field.ensures.none
