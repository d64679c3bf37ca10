-- A path of a message with the node that it leads to.
--   PathTo, path_to, path_to_code    such a path, with its message
--   Asks goal p                      the goal is one of the message, and asks the paths to that node
--   query_at p goal                  the query of the path and a goal
use Rattle.std.specs.Prelude.{◌≡◌, refl, ℕ, List}
use Rattle.std.specs.Coded.{Coded, code_by, coded_list, coded_ℕ, coded×}
use Rattle.rx_types.specs.Domain.{Domain}
use Rattle.rx_types.specs.Codes.{domain_code}
use Rattle.rx_graph.specs.declared.message.Node.{Node}
use Rattle.rx_graph.specs.Codes.{node_code, graph_code}
use Rattle.rx_graph.specs.Graph.{Graph}
use Rattle.rx_graph.specs.Typed.{Typed}
use Rattle.rx_proof.specs.declared.query.Query.{Query}
use Rattle.rx_layout.specs.declared.goal.Goal.{Goal}
use Rattle.rx_layout.specs.Goals.{source, IsGoal}
use Rattle.rx_layout.specs.QueryOf.{query_for}

-- a path by its link numbers, the node that it leads to, and the message of both
pub record PathTo : Type 0 where
  pub domains : List Domain
  pub graph : Graph
  pub node : Node
  pub path : List ℕ

-- the path of a typed message
abbrev pub path_to : Typed → Node → List ℕ → PathTo
path_to t node path = record { domains = t.domains; graph = t.graph; node = node; path = path }

-- a path as plain data
abbrev pub path_to_code : Coded PathTo
path_to_code =
    code_by (List Domain × (Graph × (Node × List ℕ))) (coded× (coded_list domain_code) (coded× graph_code (coded× node_code (coded_list coded_ℕ))))
    (λ p. (p.domains, (p.graph, (p.node, p.path)))) (λ q. record { domains = q.0; graph = q.1.0; node = q.1.1.0; path = q.1.1.1 }) (λ _. refl)

-- the message has the goal, and the goal asks the paths to the node
pub record Asks (goal : Goal) (p : PathTo) : Type 0 where
  pub is : IsGoal p.domains p.graph goal
  pub source_is : source goal ≡ p.node

-- the query of the path and a goal
abbrev pub query_at : PathTo → Goal → Query
query_at p goal = query_for p.domains p.graph goal p.path
