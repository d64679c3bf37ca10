-- The checks of a message.
--   number_of, IsNumbered    the links of a node are numbered from 1 in their order
--   covered fields           the greatest end of the fields, or 0
--   HasExclusive, HasTaken, HasReached, HasPosition, HasGrid, HasOverlay, HasCover, HasWhole    one check each
--   AllHold                  all checks of the message hold
use Rattle.std.specs.Prelude.{◌≡◌, ◌≢◌, ℕ, ◌+◌, ◌<◌, ℤ, pos, ◌+ℤ◌, ◌*ℤ◌, ◌≤ℤ◌, Bool, true, false, ◌==◌, List, [], ◌∷◌, None, slice_get, take, count_by}
use Rattle.std.specs.Int.{int_max}
use Rattle.rx_types.specs.Domain.{Domain}
use Rattle.rx_types.specs.Environment.{Placed, Environment, place_of, end_of, in_message}
use Rattle.rx_graph.specs.declared.message.Node.{Node}
use Rattle.rx_graph.specs.declared.message.Node.TheVariants.{Start, At, Null}
use Rattle.rx_graph.specs.Graph.{Arrow, Graph, type_of, IsOverlay, IsNoOverlay}
use Rattle.rx_graph.specs.Cycles.{IsLink}
use Rattle.rx_graph.specs.Paths.{first_of, size_of_target, IsTrue, IsPartial}

abbrev pub is_node : Node → Node → Bool
is_node Start Start = true
is_node (At f) (At g) = f == g
is_node Null Null = true
is_node a b = false

-- links of a node are numbered from 1 in their order
abbrev pub number_of : List Arrow → Node → ℕ → ℕ
number_of links node i = count_by (λ l. is_node node l.source) (take i links) + 1

-- link i is link n of the node
pub record IsNumbered (m : Graph) (node : Node) (n i : ℕ) (link : Arrow) : Type 0 where
  pub is : IsLink m i link
  pub source : link.source ≡ node
  pub number : n ≡ number_of m.links node i

abbrev pub IsMultipleOf8 : ℤ → Type 0
IsMultipleOf8 z = (k : ℤ) × (z ≡ k *ℤ pos 8)

-- the greatest end of the fields, or 0
abbrev pub covered : List Placed → ℤ
covered [] = pos 0
covered (p ∷ ps) = int_max (p.first +ℤ p.size) (covered ps)

module _ (domains : List Domain) (m : Graph) where
  -- the Size of field f as the link's target
  abbrev pub size_to : Arrow → Environment → ℕ → ℤ
  size_to link e f = size_of_target (type_of domains m f) link e

  -- this holds wherever link n of the node is taken at the end of a partial path
  abbrev pub WhereTaken : Node → ℕ → (Environment → Arrow → Type 0) → Type 0
  WhereTaken node n P = (total : ℕ) (path : List ℕ) (fields : List Placed) (i : ℕ) (link : Arrow) → IsPartial domains m total path fields node → IsNumbered m node n i link → IsTrue link (in_message total fields) → P (in_message total fields) link

  abbrev pub HasExclusive : Node → ℕ → ℕ → Type 0
  HasExclusive node a b = WhereTaken node a (λ e link. (j : ℕ) (other : Arrow) → IsNumbered m node b j other → IsTrue other e → ⊥)

  abbrev pub HasTaken : Node → ℕ → Type 0
  HasTaken node n = (total : ℕ) × (path : List ℕ) × (fields : List Placed) × (i : ℕ) × (link : Arrow) × IsPartial domains m total path fields node × IsNumbered m node n i link × IsTrue link (in_message total fields)

  abbrev pub HasReached : ℕ → Type 0
  HasReached f = (total : ℕ) × (path : List ℕ) × (fields : List Placed) × IsPartial domains m total path fields (At f)

  abbrev pub HasPosition : Node → ℕ → Type 0
  HasPosition node n = WhereTaken node n (λ e link. (f : ℕ) → link.target ≡ At f → (pos 0 ≤ℤ first_of link e) × (pos 0 ≤ℤ size_to link e f))

  abbrev pub HasGrid : Node → ℕ → Type 0
  HasGrid node n = WhereTaken node n (λ e link. (f : ℕ) → link.target ≡ At f → type_of domains m f ≡ None → IsMultipleOf8 (first_of link e) × IsMultipleOf8 (size_to link e f))

  abbrev pub HasOverlay : Node → ℕ → Type 0
  HasOverlay node n = WhereTaken node n (λ e link. (f x : ℕ) → link.target ≡ At f → IsOverlay m f x → size_to link e f ≡ (place_of x e.fields).size)

  abbrev pub HasCover : Node → ℕ → Type 0
  HasCover node n = WhereTaken node n (λ e link. ((f : ℕ) → link.target ≡ At f → IsNoOverlay m f → first_of link e ≡ covered e.fields) × (link.target ≡ Null → end_of e.fields ≡ covered e.fields))

  abbrev pub HasWhole : Node → ℕ → Type 0
  HasWhole node n = WhereTaken node n (λ e link. link.target ≡ Null → IsMultipleOf8 (end_of e.fields))

  -- all checks hold
  pub record AllHold : Type 0 where
    pub exclusive : (node : Node) (a b : ℕ) → a < b → HasExclusive node a b
    pub taken : (node : Node) (n i : ℕ) (link : Arrow) → IsNumbered m node n i link → HasTaken node n
    pub reached : (f : ℕ) → slice_get m.fields f ≢ None → HasReached f
    pub position : (node : Node) (n : ℕ) → HasPosition node n
    pub grid : (node : Node) (n : ℕ) → HasGrid node n
    pub overlay : (node : Node) (n : ℕ) → HasOverlay node n
    pub cover : (node : Node) (n : ℕ) → HasCover node n
    pub whole : (node : Node) (n : ℕ) → HasWhole node n
