-- Placement along a path, partial paths, and the paths that fit.
--   first_of, size_of_target    where a link's target begins, and how long it is
--   Reader                      what gives each scalar its number: a buffer or a valuation
--   Places link e p             the link leads to a field, and places it within the message
--   Leads, IsPartial            the links of a path are taken one after the other, and place its fields
--   IsWhole                     a partial path, a link to null that is taken, and an end that is the message's
--   Exclusive                   no two links of a node are both true on a partial path to it
--   HasOnePath                  at most one whole path fits, whatever gives the numbers
-- A partial path ends at the start or at a field. The numbers of its scalars stand in its placed fields.
use Rattle.std.specs.List.{AllByRecursion}
use Rattle.std.specs.Prelude.{◌≡◌, ◌^◌, ℕ, ◌*◌, ◌<◌, ℤ, pos, ◌+ℤ◌, ◌-ℤ◌, ◌≤ℤ◌, true, List, [], ◌∷◌, ◌++◌, Option, Some, None, slice_get}
use Rattle.rx_types.specs.Tree.{Tree}
use Rattle.rx_types.specs.Environment.{Placed, Environment, in_message, place_of, end_of, bits_of, IsAmong}
use Rattle.rx_types.specs.Value.{value_of, is_one}
use Rattle.rx_types.specs.Domain.{Domain, size_of, IsNumberOf}
use Rattle.rx_graph.specs.declared.message.Node.{Node}
use Rattle.rx_graph.specs.declared.message.Node.TheVariants.{Start, At, Null}
use Rattle.rx_graph.specs.Graph.{Arrow, Graph, type_of, overlay_of}
use Rattle.rx_graph.specs.Cycles.{IsLink}

abbrev pub value_or : Option Tree → Environment → ℤ → ℤ
value_or None e otherwise = otherwise
value_or (Some x) e otherwise = value_of x e

-- where a link's target begins: where its First says, else behind the last field
abbrev pub first_of : Arrow → Environment → ℤ
first_of link e = value_or link.first e (end_of e.fields)

-- how long a link's target is: a scalar as its type says, else as the link's Size says, else the rest of the message
abbrev pub size_of_target : Option Domain → Arrow → Environment → ℤ
size_of_target (Some scalar) link e = pos (size_of scalar)
size_of_target None link e = value_or link.size e (bits_of e -ℤ first_of link e)

-- a number in the scalar type, or 0 where the field is no scalar
abbrev pub HasNumber : Option Domain → ℕ → Type 0
HasNumber (Some scalar) n = IsNumberOf scalar n
HasNumber None n = n ≡ 0

abbrev pub IsTrue : Arrow → Environment → Type 0
IsTrue link e = is_one (value_of link.condition e) ≡ true

-- lies within the message
pub record LiesWithin (e : Environment) (first size : ℤ) : Type 0 where
  pub begins : pos 0 ≤ℤ first
  pub long : pos 0 ≤ℤ size
  pub ends : (first +ℤ size) ≤ℤ bits_of e

-- what gives each scalar its number: the field, its First and its Size
abbrev pub Reader : Type 0
Reader = ℕ → ℤ → ℤ → ℕ

module _ (domains : List Domain) (m : Graph) where
  -- field f as the target of a link, with a number
  abbrev pub placed_by : Arrow → Environment → ℕ → ℕ → Placed
  placed_by link e f n = record { field = f; first = first_of link e; size = size_of_target (type_of domains m f) link e; number = n }

  -- The link leads to a field, which it places within the message, and whose number is one of its type. Over a scalar
  -- of its size that stands earlier the number is that one's.
  pub record Places (link : Arrow) (e : Environment) (p : Placed) : Type 0 where
    pub target : link.target ≡ At p.field
    pub taken : IsTrue link e
    pub place : p ≡ placed_by link e p.field p.number
    pub within : LiesWithin e p.first p.size
    pub number : HasNumber (type_of domains m p.field) p.number
    pub agrees : (x : ℕ) (s t : Domain) → overlay_of (slice_get m.fields p.field) ≡ Some x → type_of domains m p.field ≡ Some s → type_of domains m x ≡ Some t → IsAmong x e.fields → (place_of x e.fields).size ≡ p.size → p.number ≡ (place_of x e.fields).number

  -- From node `at`, with the fields `before` behind it, the links lead to node `end`, and place the fields.
  abbrev pub Leads : ℕ → List Placed → Node → List ℕ → List Placed → Node → Type 0
  Leads total before at [] [] end = at ≡ end
  Leads total before at [] (p ∷ fields) end = ⊥
  Leads total before at (i ∷ path) [] end = ⊥
  Leads total before at (i ∷ path) (p ∷ fields) end =
      (link : Arrow) × IsLink m i link × (link.source ≡ at) × Places link (in_message total before) p × Leads total (before ++ p ∷ []) (At p.field) path fields end

  -- a path from the start that ends at the start or at a field, with the places and numbers of its fields
  pub record IsPartial (total : ℕ) (path : List ℕ) (fields : List Placed) (end : Node) : Type 0 where
    pub short : total < 2 ^ 24
    pub leads : Leads total [] Start path fields end

  -- the link leads from this node to null, and is taken
  pub record Ends (total : ℕ) (fields : List Placed) (at : Node) (i : ℕ) : Type 0 where
    pub link : Arrow
    pub is : IsLink m i link
    pub source : link.source ≡ at
    pub target : link.target ≡ Null
    pub taken : IsTrue link (in_message total fields)

  -- a path from the start to null, whose last field ends with the message
  pub record IsWhole (total : ℕ) (path : List ℕ) (fields : List Placed) : Type 0 where
    pub front : List ℕ
    pub last : ℕ
    pub node : Node
    pub is : path ≡ front ++ last ∷ []
    pub partial : IsPartial total front fields node
    pub ends : Ends total fields node last
    pub exact : end_of fields ≡ pos (total * 8)

  -- on no partial path are two links of its end both taken
  abbrev pub Exclusive : Type 0
  Exclusive = (total : ℕ) (path : List ℕ) (fields : List Placed) (end : Node) (i j : ℕ) (a b : Arrow) → IsPartial total path fields end → IsLink m i a → IsLink m j b → a.source ≡ end → b.source ≡ end → IsTrue a (in_message total fields) → IsTrue b (in_message total fields) → i ≡ j

  -- the number of a scalar is what is read for it
  abbrev pub IsReadBy : Reader → Placed → Type 0
  IsReadBy read p = (scalar : Domain) → type_of domains m p.field ≡ Some scalar → p.number ≡ read p.field p.first p.size

  -- at most one whole path fits, whatever gives the numbers: a buffer or a valuation
  abbrev pub HasOnePath : Type 0
  HasOnePath = (read : Reader) (total : ℕ) (path other : List ℕ) (fields more : List Placed) → IsWhole total path fields → IsWhole total other more → AllByRecursion (IsReadBy read) fields → AllByRecursion (IsReadBy read) more → (path ≡ other) × (fields ≡ more)
