-- A path of a message with its scalar types, and a link behind it.
--   TypedPath, typed_path    a path, with its message
--   message_of               its message
--   TypedEnd, typed_end      a link behind a path
--   path_of                  its path
use Rattle.std.specs.Prelude.{refl, ℕ, List}
use Rattle.std.specs.Coded.{Coded, code_by, coded_list, coded_ℕ, coded×}
use Rattle.rx_types.specs.Domain.{Domain}
use Rattle.rx_types.specs.Codes.{domain_code}
use Rattle.rx_graph.specs.Codes.{arrow_code, graph_code}
use Rattle.rx_graph.specs.Graph.{Arrow, Graph}
use Rattle.rx_graph.specs.Typed.{Typed, typed}

pub record TypedPath : Type 0 where
  pub domains : List Domain
  pub graph : Graph
  pub path : List ℕ

abbrev pub typed_path : Typed → List ℕ → TypedPath
typed_path t path = record { domains = t.domains; graph = t.graph; path = path }

abbrev pub message_of : TypedPath → Typed
message_of p = typed p.domains p.graph

abbrev pub typed_path_code : Coded TypedPath
typed_path_code =
    code_by (List Domain × (Graph × List ℕ)) (coded× (coded_list domain_code) (coded× graph_code (coded_list coded_ℕ)))
    (λ p. (p.domains, (p.graph, p.path))) (λ q. record { domains = q.0; graph = q.1.0; path = q.1.1 }) (λ _. refl)

-- ---- a link behind a path

pub record TypedEnd : Type 0 where
  pub domains : List Domain
  pub graph : Graph
  pub path : List ℕ
  pub arrow : Arrow

abbrev pub typed_end : TypedPath → Arrow → TypedEnd
typed_end p link = record { domains = p.domains; graph = p.graph; path = p.path; arrow = link }

abbrev pub path_of : TypedEnd → TypedPath
path_of e = record { domains = e.domains; graph = e.graph; path = e.path }

abbrev pub typed_end_code : Coded TypedEnd
typed_end_code =
    code_by (List Domain × (Graph × (List ℕ × Arrow))) (coded× (coded_list domain_code) (coded× graph_code (coded× (coded_list coded_ℕ) arrow_code)))
    (λ e. (e.domains, (e.graph, (e.path, e.arrow)))) (λ q. record { domains = q.0; graph = q.1.0; path = q.1.1.0; arrow = q.1.1.1 }) (λ _. refl)
