-- The ways from one node to another, in order of link numbers.
--   onward links k end at    the ways of at most k links from a node to the end, which stop there
use Rattle.std.specs.Prelude.{List, [], ◌∷◌, ◌++◌, map, ℕ, zero, suc, ◌+◌, if◌then◌else◌}
use Rattle.rx_graph.specs.declared.message.Node.{Node}
use Rattle.rx_graph.specs.Graph.{Arrow}
use Rattle.rx_graph.specs.Checks.{is_node}

-- what goes on from the target of each link of the node, in turn
abbrev pub by_each : (Node → List (List ℕ)) → Node → ℕ → List Arrow → List (List ℕ)
by_each go at i [] = []
by_each go at i (link ∷ links) = (if is_node link.source at then map (λ p. i ∷ p) (go link.target) else []) ++ by_each go at (i + 1) links

unfoldable pub onward : List Arrow → ℕ → Node → Node → List (List ℕ)
onward links zero end at = if is_node at end then [] ∷ [] else []
onward links (suc k) end at = if is_node at end then [] ∷ [] else by_each (onward links k end) at 0 links
