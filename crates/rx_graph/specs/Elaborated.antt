-- Elaborated messages, refinements and specifications, and Sound messages.
--   IsExpression k x      over the message's fields, typed and of kind k, linear and narrow
--   IsElaboratedField     a field with its type and overlay
--   IsElaboratedLink      a link with its ends, condition and aspects
--   IsElaborated          a message as it comes out of elaboration
--   IsSound               an elaborated message whose checks all hold
use Rattle.std.specs.Prelude.{◌≡◌, ◌≢◌, ℕ, ◌%◌, ◌<◌, ◌≤◌, pos, ◌<ℤ◌, Bool, true, List, length, Option, Some, None, map, slice_get, ◌⊎◌}
use Rattle.std.specs.List.{AllByRecursion}
use Rattle.rx_types.specs.declared.expr.Operator.TheVariants as op
use Rattle.rx_types.specs.declared.kind.Kind.{Kind}
use Rattle.rx_types.specs.declared.kind.Kind.TheVariants as kind
use Rattle.rx_types.specs.declared.scalar.FieldType.{FieldType}
use Rattle.rx_types.specs.declared.scalar.FieldType.TheVariants as holds
use Rattle.rx_types.specs.Names.{IsSameName}
use Rattle.rx_types.specs.Domain.{Domain, size_of, IsProper, EachPair, boolean}
use Rattle.rx_types.specs.Tree.{Tree, Field, First, Last, Size, Neg, Not, Binary}
use Rattle.rx_types.specs.Kinds.{HasKind}
use Rattle.rx_types.specs.Narrow.{IsNarrow}
use Rattle.rx_types.specs.Static.{is_static, static_value, IsLinear, HasFewOperators, IsJoinOfFew}
use Rattle.rx_types.specs.Coefficients.{HasLowCoefficients}
use Rattle.rx_graph.specs.declared.message.Node.{Node}
use Rattle.rx_graph.specs.declared.message.Node.TheVariants.{Start, At, Null}
use Rattle.rx_graph.specs.declared.message.Field as field
use Rattle.rx_graph.specs.Graph.{Arrow, Graph, Refined, Specified, type_of, overlay_of, limit_of, kind_of}
use Rattle.rx_graph.specs.Cycles.{IsLink, HasNoCycle, HasPathsUpTo}
use Rattle.rx_graph.specs.Checks.{AllHold}

-- ---- fields and links

-- every field that the expression names has an id below n
abbrev pub NamesBelow : ℕ → Tree → Type 0
NamesBelow n (Field f) = f < n
NamesBelow n (First f) = f < n
NamesBelow n (Last f) = f < n
NamesBelow n (Size f) = f < n
NamesBelow n (Neg a) = NamesBelow n a
NamesBelow n (Not a) = NamesBelow n a
NamesBelow n (Binary o a b) = NamesBelow n a × NamesBelow n b
NamesBelow n leaf = Unit {0}

-- In low order a scalar has fewer than eight bits, or whole bytes.
abbrev pub FitsOrder : Bool → ℕ → Type 0
FitsOrder low size = low ≡ true → (size < 8) ⊎ (size % 8 ≡ 0)

-- A First is that of a field, over which the target lies, or a static number from 1 on behind the Last of a field.
abbrev pub IsFirstForm : Option Tree → Type 0
IsFirstForm None = Unit {0}
IsFirstForm (Some (First x)) = Unit {0}
IsFirstForm (Some (Binary op.Add (Last x) k)) = (is_static k ≡ true) × (pos 0 <ℤ static_value k)
IsFirstForm (Some x) = ⊥

-- the field over which a First lays the target, if any
abbrev pub laid_over : Option Tree → Option ℕ
laid_over (Some (First x)) = Some x
laid_over first = None

-- the node has a link
abbrev pub GoesOn : Graph → Node → Type 0
GoesOn m node = (i : ℕ) × (link : Arrow) × IsLink m i link × (link.source ≡ node)

-- the node's only link goes to null
pub record OnlyEnds (m : Graph) (node : Node) : Type 0 where
  pub one : (i j : ℕ) (a b : Arrow) → IsLink m i a → IsLink m j b → a.source ≡ node → b.source ≡ node → i ≡ j
  pub null : (i : ℕ) (link : Arrow) → IsLink m i link → link.source ≡ node → link.target ≡ Null

-- A scalar's Size is its type's; any other field has that of the link, or is the rest of the message.
abbrev pub IsSized : Graph → Option Domain → Arrow → ℕ → Type 0
IsSized m (Some t) link f = link.size ≡ None
IsSized m None link f = link.size ≢ None ⊎ OnlyEnds m (At f)

module _ (domains : List Domain) (m : Graph) where
  pub record IsExpression (k : Kind) (x : Tree) : Type 0 where
    pub names : NamesBelow (length m.fields) x
    pub typed : HasKind (kind_of domains m) x k
    pub linear : IsLinear x
    pub narrow : IsNarrow (limit_of domains m) x
    pub low : HasLowCoefficients x

  -- a First or a Size
  abbrev pub IsAspect : Option Tree → Type 0
  IsAspect None = Unit {0}
  IsAspect (Some x) = IsExpression kind.Number x × HasFewOperators x

  abbrev pub IsFieldType : FieldType → Type 0
  IsFieldType (holds.Scalar t) = (d : Domain) × (slice_get domains t ≡ Some d) × IsProper d × FitsOrder m.low_order (size_of d)
  IsFieldType holds.Opaque = Unit {0}
  IsFieldType (holds.Sequence t) = (d : Domain) × (slice_get domains t ≡ Some d) × IsProper d × (size_of d % 8 ≡ 0)

  pub record IsElaboratedField (f : field.Field) : Type 0 where
    pub kind : IsFieldType f.kind
    pub overlay : (x : ℕ) → f.overlay ≡ Some x → x < length m.fields

  -- a link goes from the start or a field to a field or null
  abbrev pub IsSource : Node → Type 0
  IsSource Start = Unit {0}
  IsSource (At f) = f < length m.fields
  IsSource Null = ⊥

  abbrev pub IsTarget : Node → Type 0
  IsTarget Start = ⊥
  IsTarget (At f) = f < length m.fields
  IsTarget Null = Unit {0}

  -- the link lays its target where the field's overlay says, and gives it its Size
  pub record IsPlacing (link : Arrow) (f : ℕ) : Type 0 where
    pub over : laid_over link.first ≡ overlay_of (slice_get m.fields f)
    pub size : IsSized m (type_of domains m f) link f

  pub record IsElaboratedLink (link : Arrow) : Type 0 where
    pub source : IsSource link.source
    pub target : IsTarget link.target
    pub condition : IsExpression kind.Truth link.condition
    pub few : IsJoinOfFew link.condition
    pub first : IsAspect link.first
    pub form : IsFirstForm link.first
    pub size : IsAspect link.size
    pub placing : (f : ℕ) → link.target ≡ At f → IsPlacing link f

  -- ---- messages

  pub record IsElaborated : Type 0 where
    pub few_fields : length m.fields ≤ 128
    pub few_links : length m.links ≤ 512
    pub few_paths : HasPathsUpTo m Null 4096
    pub names : EachPair (λ a b. IsSameName a.name b.name → ⊥) m.fields
    pub fields : (f : ℕ) (x : field.Field) → slice_get m.fields f ≡ Some x → IsElaboratedField x
    pub links : (i : ℕ) (link : Arrow) → IsLink m i link → IsElaboratedLink link
    pub begins : GoesOn m Start
    pub goes_on : (f : ℕ) → f < length m.fields → GoesOn m (At f)
    pub acyclic : HasNoCycle m

  pub record IsSound : Type 0 where
    pub elaborated : IsElaborated
    pub holds : AllHold domains m

-- ---- specifications

-- the field is opaque, and the condition is a truth value over the message's fields
pub record IsRefining (domains : List Domain) (m : Graph) (r : Refined) : Type 0 where
  pub opaque : (f : field.Field) × (slice_get m.fields r.field ≡ Some f) × (f.kind ≡ holds.Opaque)
  pub condition : IsExpression domains m kind.Truth r.condition
  pub few : HasFewOperators r.condition

pub record IsElaboratedRefinement (domains : List Domain) (messages : List Graph) (r : Refined) : Type 0 where
  pub message : (m : Graph) × (slice_get messages r.message ≡ Some m) × IsRefining domains m r
  pub inner : (id : ℕ) → r.inner ≡ Some id → id < length messages

-- Boolean is the first scalar type, and every message and refinement is elaborated.
pub record IsElaboratedSpec (s : Specified) : Type 0 where
  pub boolean : (d : Domain) → slice_get (map (λ x. x.domain) s.scalars) 0 ≡ Some d → d ≡ boolean
  pub messages : AllByRecursion (λ m. IsElaborated (map (λ x. x.domain) s.scalars) m) s.messages
  pub refinements : AllByRecursion (λ r. IsElaboratedRefinement (map (λ x. x.domain) s.scalars) s.messages r) s.refinements
