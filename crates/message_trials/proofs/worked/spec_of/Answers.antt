use Rattle.std.proofs.Common.{◌≡◌, List, map, Some, subst}
use Rattle.std.specs.Prelude.{slice_get}
use Rattle.std.specs.List.{AllByRecursion}
use Rattle.rx_types.specs.Domain.{Domain, boolean}
use Rattle.rx_graph.specs.Graph.{graph_of, domains_of}
use Rattle.rx_forms.specs.PathLimit.{MayBeChecked}
use Rattle.message_trials.proofs.Elaborated.{domains_same, first_same}
use Rattle.message_trials.proofs.worked.spec_of.Goals as goal

pub returns-in-Ok-clause-messages : goal.returns-in-Ok-clause-messages
returns-in-Ok-clause-messages c =
    subst (λ (ds : List Domain). AllByRecursion (MayBeChecked ds) (map graph_of c.in-Ok.spec.messages.items)) (domains_same c.in-Ok.spec) c.in-Ok.ensures.sound.messages

pub returns-in-Ok-clause-boolean : goal.returns-in-Ok-clause-boolean
returns-in-Ok-clause-boolean c =
    first_same (domains_of c.in-Ok.spec) (subst (λ (ds : List Domain). slice_get ds 0 ≡ Some boolean) (domains_same c.in-Ok.spec) c.in-Ok.ensures.sound.boolean)
