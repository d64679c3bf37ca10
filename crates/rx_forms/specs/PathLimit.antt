-- The path limit of a message.
--   IsOut m node out     none, one or two links of the node, in their order
--   KeepsLimit           each path from the start, with such links of its end, stays within the limit
--   MayBeChecked         the message is elaborated, and keeps the limit
--   keeps_limit          the same, told by the list of all paths and links
--   HasFewPaths          at most 4,096 paths lead to any node
use Rattle.std.specs.Prelude.{◌≡◌, ◌↔◌, ◌<◌, ℕ, ◌+◌, Bool, true, false, not, List, [], ◌∷◌, ◌++◌, length, map, if◌then◌else◌}
use Rattle.std.specs.List.{list_all}
use Rattle.rx_types.specs.Domain.{Domain}
use Rattle.rx_graph.specs.declared.message.Node.{Node}
use Rattle.rx_graph.specs.declared.message.Node.TheVariants.{Start, At, Null}
use Rattle.rx_graph.specs.declared.message.Field.{Field}
use Rattle.rx_graph.specs.Graph.{Arrow, Graph}
use Rattle.rx_graph.specs.Checks.{is_node}
use Rattle.rx_graph.specs.Cycles.{IsLink, IsPath, HasPathsUpTo}
use Rattle.rx_graph.specs.Elaborated.{IsElaborated}
use Rattle.rx_graph.specs.Onward.{onward}
use Rattle.rx_forms.specs.Steps.{passes_limit}

-- link i leads from the node
abbrev pub LeadsFrom : Graph → Node → ℕ → Type 0
LeadsFrom m node i = (link : Arrow) × IsLink m i link × (link.source ≡ node)

abbrev pub IsOut : Graph → Node → List ℕ → Type 0
IsOut m node [] = Unit {0}
IsOut m node (i ∷ []) = LeadsFrom m node i
IsOut m node (i ∷ j ∷ []) = LeadsFrom m node i × LeadsFrom m node j × (i < j)
IsOut m node (i ∷ j ∷ k ∷ out) = ⊥

-- the message stays within the path limit
abbrev pub KeepsLimit : List Domain → Graph → Type 0
KeepsLimit domains m = (node : Node) (path out : List ℕ) → IsPath m Start path node → IsOut m node out → passes_limit domains m path out ≡ false

pub record MayBeChecked (domains : List Domain) (m : Graph) : Type 0 where
  pub elaborated : IsElaborated domains m
  pub limit : KeepsLimit domains m

-- ---- the same by lists

-- the numbers of the links that lead from the node, of which the first link here has number i
abbrev pub numbers_from : Node → ℕ → List Arrow → List ℕ
numbers_from node i [] = []
numbers_from node i (link ∷ links) = (if is_node link.source node then i ∷ [] else []) ++ numbers_from node (i + 1) links

-- each alone, and with each later one
abbrev pub ones_and_pairs : List ℕ → List (List ℕ)
ones_and_pairs [] = []
ones_and_pairs (i ∷ is) = (i ∷ []) ∷ (map (λ j. i ∷ j ∷ []) is ++ ones_and_pairs is)

-- none, one or two links of the node
abbrev pub outs : Graph → Node → List (List ℕ)
outs m node = [] ∷ ones_and_pairs (numbers_from node 0 m.links)

-- the path stays within the limit, with none, one or two of these links
abbrev pub keeps_path : List Domain → Graph → List ℕ → List ℕ → Bool
keeps_path domains m numbers path = list_all (λ out. not (passes_limit domains m path out)) ([] ∷ ones_and_pairs numbers)

-- each path from the start to the node stays within the limit, with each choice of links
abbrev pub keeps_limit_at : List Domain → Graph → Node → Bool
keeps_limit_at domains m node = list_all (λ path. list_all (λ out. not (passes_limit domains m path out)) (outs m node)) (onward m.links (length m.links) node Start)

abbrev pub fields_from : ℕ → List Field → List Node
fields_from f [] = []
fields_from f (field ∷ fields) = At f ∷ fields_from (f + 1) fields

-- the start, the fields, and null
abbrev pub every_node : Graph → List Node
every_node m = Start ∷ (fields_from 0 m.fields ++ Null ∷ [])

abbrev pub keeps_limit : List Domain → Graph → Bool
keeps_limit domains m = list_all (keeps_limit_at domains m) (every_node m)

-- the lists tell whether the limit is kept
abbrev pub LimitIsKept : List Domain → Graph → Type 0
LimitIsKept domains m = (keeps_limit domains m ≡ true) ↔ KeepsLimit domains m

-- at most 4,096 paths lead to any node
abbrev pub HasFewPaths : Graph → Type 0
HasFewPaths m = (node : Node) → HasPathsUpTo m node 4096
