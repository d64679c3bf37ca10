-- The goals of a message, in the order in which they are reported.
--   nodes_of m          the start, then the fields in the order of the text
--   links_at m node     the links of a node, in their order
--   is_checked, goal_of whether a link has such a check, and the goal that it makes
--   goal_on             the goal that speaks of two links, of a field, or of one link
--   all_goals           all goals of the message
use Rattle.std.specs.Prelude.{◌≡◌, ◌⊎◌, List, [], ◌∷◌, ◌++◌, filter, ℕ, ◌+◌, Bool, true, false, if◌then◌else◌, Option, Some, None, slice_get}
use Rattle.std.specs.List.{flat_map}
use Rattle.rx_types.specs.Domain.{Domain}
use Rattle.rx_graph.specs.declared.message.Node.{Node}
use Rattle.rx_graph.specs.declared.message.Node.TheVariants.{Start, At, Null}
use Rattle.rx_graph.specs.declared.message.Field.{Field}
use Rattle.rx_graph.specs.Graph.{Arrow, Graph, type_of, overlay_of}
use Rattle.rx_graph.specs.Checks.{is_node}
use Rattle.rx_layout.specs.declared.goal.Goal.{Goal}
use Rattle.rx_layout.specs.declared.goal.Goal.TheVariants as goal
use Rattle.rx_layout.specs.declared.checklist.LinkCheck.{LinkCheck}
use Rattle.rx_layout.specs.declared.checklist.LinkCheck.TheVariants.{Taken, Position, Grid, Overlay, Cover, Whole}
use Rattle.rx_layout.specs.declared.checklist.Subject.{Subject}
use Rattle.rx_layout.specs.declared.checklist.Subject.TheVariants.{Links, Field as Of, Link}

-- ---- nodes and links

abbrev pub nodes_from : ℕ → List Field → List Node
nodes_from f [] = []
nodes_from f (field ∷ fields) = At f ∷ nodes_from (f + 1) fields

abbrev pub nodes_of : Graph → List Node
nodes_of m = Start ∷ nodes_from 0 m.fields

abbrev pub links_at : Graph → Node → List Arrow
links_at m node = filter (λ l. is_node node l.source) m.links

-- the element stands in the list
abbrev pub Among : {X : Type 0} → X → List X → Type 0
Among x [] = ⊥
Among x (y ∷ ys) = (y ≡ x) ⊎ Among x ys

-- ---- the checks of one link

abbrev pub is_absent : {X : Type 0} → Option X → Bool
is_absent None = true
is_absent (Some x) = false

abbrev pub is_present : {X : Type 0} → Option X → Bool
is_present None = false
is_present (Some x) = true

abbrev pub goal_of : LinkCheck → Node → ℕ → Goal
goal_of Taken node n = goal.Taken node n
goal_of Position node n = goal.Position node n
goal_of Grid node n = goal.Grid node n
goal_of Overlay node n = goal.Overlay node n
goal_of Cover node n = goal.Cover node n
goal_of Whole node n = goal.Whole node n

-- the goal that speaks of this
abbrev pub goal_on : Subject → Goal
goal_on (Links node a b) = goal.Exclusive node a b
goal_on (Of f) = goal.Reached f
goal_on (Link check node n) = goal_of check node n

module _ (domains : List Domain) (m : Graph) where
  -- Taken and Cover are asked of every link, Position of those into a field, Grid of those into bytes, Overlay of those into an
  -- overlay, Whole of those to null
  abbrev pub is_checked : LinkCheck → Node → Bool
  is_checked Taken target = true
  is_checked Cover target = true
  is_checked Position Start = false
  is_checked Position (At f) = true
  is_checked Position Null = false
  is_checked Grid Start = false
  is_checked Grid (At f) = is_absent (type_of domains m f)
  is_checked Grid Null = false
  is_checked Overlay Start = false
  is_checked Overlay (At f) = is_present (overlay_of (slice_get m.fields f))
  is_checked Overlay Null = false
  is_checked Whole Start = false
  is_checked Whole (At f) = false
  is_checked Whole Null = true

  -- those of a node's links from number n on
  abbrev pub checks_from : LinkCheck → Node → ℕ → List Arrow → List Goal
  checks_from check node n [] = []
  checks_from check node n (link ∷ links) = (if is_checked check link.target then goal_of check node n ∷ [] else []) ++ checks_from check node (n + 1) links

  abbrev pub checks_of : LinkCheck → List Goal
  checks_of check = flat_map (λ node. checks_from check node 1 (links_at m node)) (nodes_of m)

  -- ---- two links, and fields

  -- link a of the node with each later one, from number b on
  abbrev pub pairs_with : Node → ℕ → ℕ → List Arrow → List Goal
  pairs_with node a b [] = []
  pairs_with node a b (link ∷ links) = goal.Exclusive node a b ∷ pairs_with node a (b + 1) links

  -- each link from number a on with each later one
  abbrev pub pairs_from : Node → ℕ → List Arrow → List Goal
  pairs_from node a [] = []
  pairs_from node a (link ∷ links) = pairs_with node a (a + 1) links ++ pairs_from node (a + 1) links

  abbrev pub pairs_of : List Goal
  pairs_of = flat_map (λ node. pairs_from node 1 (links_at m node)) (nodes_of m)

  abbrev pub reached_from : ℕ → List Field → List Goal
  reached_from f [] = []
  reached_from f (field ∷ fields) = goal.Reached f ∷ reached_from (f + 1) fields

  -- ---- all

  abbrev pub all_goals : List Goal
  all_goals =
      pairs_of ++ (checks_of Taken ++ (reached_from 0 m.fields ++ (checks_of Position ++ (checks_of Grid ++ (checks_of Overlay ++ (checks_of Cover ++ checks_of Whole))))))
