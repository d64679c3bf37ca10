-- Paths of links alone, graphs without a cycle, and all paths to a node.
--   IsLink m i link          link i of the message
--   IsPath m at path end     the links lead from one node to the other
--   HasNoCycle m             no node leads back to itself
--   Precedes p q             at the first link in which two paths differ, p takes the one that stands before
--   ArePathsTo m end paths   these are the paths from the start to the node, in order, each once
--   HasPathsUpTo, HasMorePathsTo    how many there are
use Rattle.std.specs.Prelude.{◌≡◌, ◌<◌, ◌≤◌, ℕ, List, [], ◌∷◌, length, Some, slice_get, ◌⊎◌, Contains}
use Rattle.std.specs.List.{AllByRecursion}
use Rattle.rx_types.specs.Domain.{EachPair}
use Rattle.rx_graph.specs.declared.message.Node.{Node}
use Rattle.rx_graph.specs.declared.message.Node.TheVariants.{Start, At, Null}
use Rattle.rx_graph.specs.Graph.{Arrow, Graph}

abbrev pub IsLink : Graph → ℕ → Arrow → Type 0
IsLink m i link = slice_get m.links i ≡ Some link

abbrev pub IsPath : Graph → Node → List ℕ → Node → Type 0
IsPath m at [] end = at ≡ end
IsPath m at (i ∷ path) end = (link : Arrow) × IsLink m i link × (link.source ≡ at) × IsPath m link.target path end

abbrev pub HasNoCycle : Graph → Type 0
HasNoCycle m = (at : Node) (i : ℕ) (path : List ℕ) → IsPath m at (i ∷ path) at → ⊥

-- every link that leads to a field leads to one of the message's
abbrev pub TargetsAreFields : Graph → Type 0
TargetsAreFields m = (i : ℕ) (link : Arrow) (f : ℕ) → IsLink m i link → link.target ≡ At f → f < length m.fields

abbrev pub Precedes : List ℕ → List ℕ → Type 0
Precedes [] q = ⊥
Precedes (i ∷ p) [] = ⊥
Precedes (i ∷ p) (j ∷ q) = (i < j) ⊎ ((i ≡ j) × Precedes p q)

pub record ArePathsTo (m : Graph) (end : Node) (paths : List (List ℕ)) : Type 0 where
  pub all : (path : List ℕ) → IsPath m Start path end → Contains paths path
  pub alone : AllByRecursion (λ path. IsPath m Start path end) paths
  pub ordered : EachPair Precedes paths

-- the paths from the start to null
abbrev pub AreWholePaths : Graph → List (List ℕ) → Type 0
AreWholePaths m paths = ArePathsTo m Null paths

-- at most so many paths lead to the node, or more
abbrev pub HasPathsUpTo : Graph → Node → ℕ → Type 0
HasPathsUpTo m end n = (paths : List (List ℕ)) × ArePathsTo m end paths × (length paths ≤ n)

abbrev pub HasMorePathsTo : Graph → Node → ℕ → Type 0
HasMorePathsTo m end n = (paths : List (List ℕ)) × ArePathsTo m end paths × (n < length paths)
