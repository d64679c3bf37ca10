-- What has to be known of messages so that they can be checked.
--   IsCheckable t             the message is elaborated, and keeps the path limit
--   TypedMessages, messages_of    the messages of a specification with its scalar types
--   AllCheckable s            each of them is so
use Rattle.std.specs.Prelude.{◌≡◌, refl, ℕ, List, Some, map, slice_get}
use Rattle.std.specs.Coded.{Coded, code_by, coded_list, coded×}
use Rattle.rx_types.specs.Domain.{Domain}
use Rattle.rx_types.specs.Codes.{domain_code}
use Rattle.rx_graph.specs.declared.spec.Spec.{Spec}
use Rattle.rx_graph.specs.Codes.{graph_code}
use Rattle.rx_graph.specs.Graph.{Graph, graph_of, domains_of}
use Rattle.rx_graph.specs.Typed.{Typed, typed, IsKnown}
use Rattle.rx_forms.specs.PathLimit.{KeepsLimit}

-- what is known of a message that can be checked
pub record IsCheckable (t : Typed) : Type 0 where
  pub known : IsKnown t
  pub limit : KeepsLimit t.domains t.graph

pub record TypedMessages : Type 0 where
  pub domains : List Domain
  pub graphs : List Graph

abbrev pub messages_of : Spec → TypedMessages
messages_of spec = record { domains = domains_of spec; graphs = map graph_of spec.messages.items }

abbrev pub typed_messages_code : Coded TypedMessages
typed_messages_code =
    code_by (List Domain × List Graph) (coded× (coded_list domain_code) (coded_list graph_code)) (λ s. (s.domains, s.graphs)) (λ p. record { domains = p.0; graphs = p.1 }) (λ _. refl)

-- each message can be checked
abbrev pub AllCheckable : TypedMessages → Type 0
AllCheckable s = (i : ℕ) (m : Graph) → slice_get s.graphs i ≡ Some m → IsCheckable (typed s.domains m)
