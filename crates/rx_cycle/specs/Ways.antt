-- Chains of the links of each node, and what a search has reached.
--   IsLastFrom links node bound next        the last link from the node before link `bound`
--   ListsLinks links n last previous        the chains of all links between n nodes
--   IsSeen seen node                        the search has seen the node
--   NeverRises ranks links                  along no link the rank rises
--   HasReached links n start seen waiting node next    what a search from `start` has reached
use Rattle.std.specs.Prelude.{◌≡◌, ◌≢◌, ℕ, ◌+◌, ◌<◌, ◌≤◌, Bool, true, false, List, length, slice_index, slice_index_or, ◌⊎◌, Contains}
use Rattle.rx_cycle.specs.declared.ends.Ends.{Ends}
use Rattle.rx_cycle.specs.Graph.{IsLink, LeadsTo}

-- the last link from the node before link `bound`, counted from 1, or 0 if there is none
pub record IsLastFrom (links : List Ends) (node bound next : ℕ) : Type 0 where
  pub within : next ≤ bound
  pub here : (k : ℕ) (link : Ends) → next ≡ k + 1 → IsLink links k link → link.source ≡ node
  pub none : (k : ℕ) (link : Ends) → next ≤ k → k < bound → IsLink links k link → link.source ≢ node

-- each node has its last link, and each link the one before it from the same node
pub record ListsLinks (links : List Ends) (n : ℕ) (last previous : List ℕ) : Type 0 where
  pub nodes : length last ≡ n
  pub all : length previous ≡ length links
  pub from_node : (v : ℕ) → v < n → IsLastFrom links v (length links) (slice_index last v)
  pub from_link : (k : ℕ) (link : Ends) → IsLink links k link → IsLastFrom links link.source k (slice_index previous k)

abbrev pub IsSeen : List Bool → ℕ → Type 0
IsSeen seen v = slice_index_or seen v false ≡ true

-- Seen nodes are reached, and nodes that wait are seen. A seen node waits, or the targets of its links are seen, but for those links of the one node that stand before link `next`.
pub record HasReached (links : List Ends) (n start : ℕ) (seen : List Bool) (waiting : List ℕ) (node next : ℕ) : Type 0 where
  pub nodes : length seen ≡ n
  pub from_start : IsSeen seen start
  pub from_node : IsSeen seen node
  pub reached : (v : ℕ) → IsSeen seen v → LeadsTo links start v
  pub waits : (v : ℕ) → Contains waiting v → IsSeen seen v
  pub followed : (k : ℕ) (link : Ends) → IsLink links k link → IsSeen seen link.source → IsSeen seen link.target ⊎ (Contains waiting link.source ⊎ ((link.source ≡ node) × (k < next)))

-- along no link the rank, 0 for a node without one, rises
abbrev pub NeverRises : List ℕ → List Ends → Type 0
NeverRises ranks links = (k : ℕ) (link : Ends) → IsLink links k link → slice_index ranks link.target ≤ slice_index ranks link.source
