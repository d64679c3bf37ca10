-- Messages with the scalar types of their fields, and what elaboration makes known of them.
--   Typed, typed           a message with the scalar types that its fields name
--   HasBoolean             the first scalar type is Boolean
--   IsKnown                the message is elaborated, and the first scalar type is Boolean
--   IsKnownSound           and its checks all hold
--   TypedLink, typed_link  a link of such a message
--   IsLinked               the message is known, and the link is one of its links
use Rattle.std.specs.Prelude.{◌≡◌, refl, ℕ, List, Some, slice_get}
use Rattle.std.specs.Coded.{Coded, code_by, coded_list, coded×}
use Rattle.rx_types.specs.Domain.{Domain, boolean}
use Rattle.rx_types.specs.Codes.{domain_code}
use Rattle.rx_graph.specs.Graph.{Arrow, Graph}
use Rattle.rx_graph.specs.Elaborated.{IsElaborated, IsSound}
use Rattle.rx_graph.specs.Codes.{arrow_code, graph_code}

pub record Typed : Type 0 where
  pub domains : List Domain
  pub graph : Graph

abbrev pub typed : List Domain → Graph → Typed
typed domains graph = record { domains = domains; graph = graph }

abbrev pub typed_code : Coded Typed
typed_code = code_by (List Domain × Graph) (coded× (coded_list domain_code) graph_code) (λ t. (t.domains, t.graph)) (λ p. record { domains = p.0; graph = p.1 }) (λ _. refl)

-- the first scalar type is Boolean
abbrev pub HasBoolean : List Domain → Type 0
HasBoolean domains = (d : Domain) → slice_get domains 0 ≡ Some d → d ≡ boolean

-- what is known of a message that was elaborated
pub record IsKnown (t : Typed) : Type 0 where
  pub elaborated : IsElaborated t.domains t.graph
  pub boolean : HasBoolean t.domains

-- what is known of a message whose checks all hold
pub record IsKnownSound (t : Typed) : Type 0 where
  pub known : IsKnown t
  pub sound : IsSound t.domains t.graph

-- ---- links

pub record TypedLink : Type 0 where
  pub domains : List Domain
  pub graph : Graph
  pub arrow : Arrow

abbrev pub typed_link : Typed → Arrow → TypedLink
typed_link t link = record { domains = t.domains; graph = t.graph; arrow = link }

abbrev pub typed_link_code : Coded TypedLink
typed_link_code =
    code_by (List Domain × (Graph × Arrow)) (coded× (coded_list domain_code) (coded× graph_code arrow_code))
    (λ l. (l.domains, (l.graph, l.arrow))) (λ p. record { domains = p.0; graph = p.1.0; arrow = p.1.1 }) (λ _. refl)

-- a link of a message of which this is known
pub record IsLinked (l : TypedLink) : Type 0 where
  pub known : IsKnown (typed l.domains l.graph)
  pub place : ℕ
  pub there : slice_get l.graph.links place ≡ Some l.arrow
